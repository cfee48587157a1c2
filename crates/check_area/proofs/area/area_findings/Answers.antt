use Rattle.std.proofs.Common.{◌≡◌, List, None, Some, IfOk, option_map, sym, ap, subst, ◌∙◌}
use Rattle.std.specs.List.{All}
use Rattle.s57_types.specs.declared.record.Spot.{Spot}
use Rattle.cell_spec.specs.declared.finding.Finding.{Finding}
use Rattle.check_area.specs.Lines.{AsksForLine, parts_of}
use Rattle.check_area.specs.Parts.{findings_of_parts}
use Rattle.check_area.proofs.Places.{all_asked, none_found, parts_found}
use Rattle.check_area.proofs.area.area_findings.Goals as goal

pub returns-in-Some : goal.returns-in-Some
returns-in-Some g c = λ cell n keys near is_set found area fits there coded.
    let f = c.args.feature.now in
    let asks = subst (λ (places : List Spot). All (λ (s : Spot). AsksForLine cell keys s.to) places) (sym c.as_slice.ensures)
    (all_asked cell n f keys is_set found area) in
    let parts : Some c.in-Some.parts.items ≡ parts_of cell f.places =
    ap (option_map (λ list. list.items)) (sym c.in-Some.is) ∙ c.in_ok-parts.ensures cell keys near asks ∙ ap (parts_of cell) c.as_slice.ensures in
    subst (λ (fs : List Finding). IfOk c.ring_findings.result (λ findings. findings.items ≡ fs))
    (ap findings_of_parts c.deref.ensures.value ∙ parts_found cell f area fits there coded c.in-Some.parts.items parts) c.ring_findings.ensures

pub returns-in-None : goal.returns-in-None
returns-in-None g c = λ cell n keys near is_set found area fits there coded.
    let f = c.args.feature.now in
    let asks = subst (λ (places : List Spot). All (λ (s : Spot). AsksForLine cell keys s.to) places) (sym c.as_slice.ensures)
    (all_asked cell n f keys is_set found area) in
    let none : None ≡ parts_of cell f.places =
    ap (option_map (λ list. list.items)) (sym c.in-None.is) ∙ c.in_ok-parts.ensures cell keys near asks ∙ ap (parts_of cell) c.as_slice.ensures in
    c.new.ensures.items ∙ none_found cell f area fits there coded none
