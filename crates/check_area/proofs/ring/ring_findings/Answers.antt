use Rattle.std.proofs.Common.{◌≡◌, List, map, subst, sym, ap, ◌∙◌, IfOk}
use Rattle.cell_spec.specs.declared.finding.Finding.{Finding}
use Rattle.ring_build.specs.Partition.{cut_of, length_of_block}
use Rattle.ring_build.specs.declared.ring.RingCut.TheVariants.{OpenAt, Whole}
use Rattle.check_area.specs.Parts.{arc_of_part}
use Rattle.check_area.proofs.Loops.{open_found, whole_found}
use Rattle.check_area.proofs.ring.ring_findings.Goals as goal

pub returns-in-OpenAt : goal.returns-in-OpenAt
returns-in-OpenAt c =
    let found : OpenAt c.in-OpenAt.place ≡ cut_of (map arc_of_part c.args.parts.now) =
    sym c.in-OpenAt.is ∙ c.in_ok-place.ensures.computed ∙ ap cut_of (c.deref.ensures.value ∙ c.in_ok-arcs.ensures) in
    subst (λ (fs : List Finding). IfOk c.open_ring.result (λ findings. findings.items ≡ fs))
    (open_found c.args.parts.now c.in-OpenAt.place found) c.open_ring.ensures

pub returns : goal.returns
returns c =
    let found : Whole c.in-Whole.blocks ≡ cut_of (map arc_of_part c.args.parts.now) =
    sym c.in-Whole.is ∙ c.in_ok-place.ensures.computed ∙ ap cut_of (c.deref.ensures.value ∙ c.in_ok-arcs.ensures) in
    subst (λ (fs : List Finding). IfOk c.loop_findings.result (λ findings. findings.items ≡ fs))
    (whole_found c.args.parts.now c.in-Whole.blocks c.deref-in-Whole.result.now found
    (c.deref-in-Whole.ensures.value ∙ c.in_ok-lengths-in-Whole.ensures ∙ ap (map length_of_block) c.as_slice.ensures))
    c.loop_findings.ensures
