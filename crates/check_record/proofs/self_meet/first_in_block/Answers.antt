use Rattle.std.proofs.Common.{◌∙◌, sym, ap}
use Rattle.geometry_spec.specs.Boxes.{are_disjoint}
use Rattle.rule_spec.specs.Vectors.{meets_wrongly}
use Rattle.line_boxes.proofs.ApartLines.{none_by_box}
use Rattle.check_record.proofs.BlockRows.{meeting_needed}
use Rattle.check_record.proofs.self_meet.first_in_block.Goals as goal

pub returns-then-are_disjoint : goal.returns-then-are_disjoint
returns-then-are_disjoint c =
    let apart = ap (λ b. are_disjoint b c.args.block.now.around) (sym c.box_of_segment.ensures) ∙ sym c.are_disjoint.ensures ∙ c.if-are_disjoint.true in
    sym (none_by_box (meets_wrongly c.args.closed c.args.count) (meeting_needed c.args.closed c.args.count) c.args.a c.args.block.now.around
    c.args.block.now.segments.now c.requires apart)
