use Rattle.std.proofs.Common.{map, subst, ap, ◌∙◌}
use Rattle.std.specs.Prelude.{filter_map}
use Rattle.std.specs.Borrow.{Bor}
use Rattle.s57_types.specs.declared.record.Rec.{Rec}
use Rattle.cell_spec.specs.Edits.{left_by}
use Rattle.chain_topo.specs.Listed.{AreBearersOf, ArePointersOf}
use Rattle.edit_answers.proofs.Unedited.{left_have_few_pointers}
use Rattle.edit_answers.proofs.after.EditAnswers.make.Goals as goal

pub group_pointers-requires : goal.group_pointers-requires
group_pointers-requires c =
    left_have_few_pointers c.args.edits.now.nall c.args.edits.now.edits c.deref.result.now
    (ap (map (λ (r : Bor Rec). r.now)) c.deref.ensures.value ∙ c.in_ok-records.ensures ∙ ap (filter_map left_by) c.edits.ensures)
    c.known.ensures.parts.fit

pub invariant_of-result : goal.invariant_of-result
invariant_of-result c =
    let left = c.in_ok-records.ensures ∙ ap (filter_map left_by) c.edits.ensures in
    record {
      pointers_are = subst (λ rs. ArePointersOf rs c.in_ok-pointers.pointers) (ap (map (λ (r : Bor Rec). r.now)) c.deref.ensures.value
          ∙ left) c.in_ok-pointers.ensures;
      bearers_are = subst (λ rs. AreBearersOf rs c.in_ok-bearers.bearers) (ap (map (λ (r : Bor Rec). r.now)) c.deref-2.ensures.value
          ∙ left) c.in_ok-bearers.ensures;
    }
