use Rattle.std.proofs.Common.{◌∙◌, ap, map, sym}
use Rattle.std.specs.Prelude.{option_to_list}
use Rattle.std.specs.List.{enumerate_from}
use Rattle.line_boxes.specs.LineBoxes.{line_box}
use Rattle.check_pairs.proofs.Extents.{box_of_line, box_without_line}
use Rattle.check_pairs.proofs.part.ChainPart.extent.Goals as goal

pub returns-in-Some : goal.returns-in-Some
returns-in-Some c = λ cell part.
    c.around.ensures
    ∙ sym (box_of_line cell c.args.self.now.name c.args.self.now.record.now part.record_held c.in-Some.line (sym part.line_held ∙ c.in-Some.is))

pub returns-in-None : goal.returns-in-None
returns-in-None c = λ cell part.
    let name = c.args.self.now.name in
    c.box_of_place.ensures
    ∙ ap (λ place. line_box (enumerate_from 1 (map (λ p. (p, p)) (option_to_list place)))) (c.position_of.ensures cell name part.record_held)
    ∙ sym (box_without_line cell name (sym part.line_held ∙ c.in-None.is))
