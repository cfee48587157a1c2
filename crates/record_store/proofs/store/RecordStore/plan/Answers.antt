use Rattle.std.proofs.Common.{◌≡◌, true, length, subst, sym, ap, ◌∙◌}
use Rattle.std.specs.Prelude.{◌&&◌, nat_le, not}
use Rattle.std.proofs.lemmas.Bool.{and_parts}
use Rattle.cell_spec.specs.Edits.{apply_edits, find_their_records, is_applicable, leave_a_long_head, touched_keys}
use Rattle.cell_spec.specs.Lookup.{all_records}
use Rattle.cell_spec.specs.Writable.{record_limit}
use Rattle.edit_sets.specs.FormFault.{IsFormed, form_fault}
use Rattle.answer_laws.specs.EditedAnswers.{FindTheirRecords}
use Rattle.record_store.specs.Stores.{ArePut, IsStore, names_after, refs_after}
use Rattle.record_store.proofs.Stored.{store_after}
use Rattle.record_store.proofs.store.RecordStore.plan.Goals as goal

pub after-requires : goal.after-requires
after-requires c =
    let cell = c.self.inside.records in
    let edits = c.args.edits.now.edits in
    let guards = c.args.edits.now.guards in
    let found : find_their_records edits cell ≡ true =
    (and_parts (find_their_records edits cell) (nat_le (length (all_records (apply_edits edits cell))) record_limit && not
    (leave_a_long_head edits cell)) (ap (is_applicable edits) c.self.view_is ∙ c.requires.taken)).0 in
    let formed = subst (λ nall. IsFormed nall edits guards) (c.requires.level ∙ ap (λ cell. cell.head.nall) (sym c.self.view_is)) c.known.ensures.parts in
    let fit = c.formed_edits_find_their_records.ensures cell edits guards (c.writable_cells_are_readable.ensures cell c.self.invariant.writable) formed found in
    subst (λ those. FindTheirRecords those c.in_ok-share.field-0) (sym c.edits-2.ensures) (subst (FindTheirRecords edits) (sym c.in_ok-share.ensures) fit)

pub invariant_of-next : goal.invariant_of-next
invariant_of-next c =
    let cell = c.self.inside.records in
    let old = c.self.inside.answers in
    let now = c.in_ok-answers.answers in
    let guards = c.args.edits.now.guards in
    let edits = c.args.edits.now.edits in
    let taken = ap (is_applicable edits) c.self.view_is ∙ c.requires.taken in
    let found : find_their_records edits cell ≡ true =
    (and_parts (find_their_records edits cell) (nat_le (length (all_records (apply_edits edits cell))) record_limit && not
    (leave_a_long_head edits cell)) taken).0 in
    let level = c.requires.level ∙ ap (λ cell. cell.head.nall) (sym c.self.view_is) in
    let formed = subst (λ nall. IsFormed nall edits guards) level c.known.ensures.parts in
    let fit = c.formed_edits_find_their_records.ensures cell edits guards (c.writable_cells_are_readable.ensures cell c.self.invariant.writable) formed found in
    let writable = c.edits_keep_a_cell_writable.ensures cell edits guards c.self.invariant.writable
    (ap (λ nall. form_fault nall edits guards) (sym level) ∙ c.known.ensures.form) taken in
    let keys = c.as_slice.ensures ∙ c.in_ok-keys.ensures ∙ (λ i. touched_keys (c.edits.ensures i) (sym c.self.view_is i)) in
    let put =
    subst (λ keys. ArePut keys (refs_after edits old.pointers) (names_after edits old.bearers) old.pointers now.pointers old.bearers now.bearers) keys
    (subst (λ set. ArePut c.as_slice.result.now (refs_after set.edits old.pointers)
    (names_after set.edits old.bearers) old.pointers now.pointers old.bearers now.bearers) c.in_ok-merged.ensures c.in_ok-answers.ensures) in
    let records = c.in_ok-records.ensures ∙ (λ i. apply_edits (c.edits-2.ensures i) (c.in_ok-share.ensures i)) in
    subst (λ cell. IsStore cell now.pointers now.bearers) (sym records)
    (store_after edits cell old.pointers now.pointers old.bearers now.bearers c.self.invariant fit c.edited_answers.ensures
    c.untouched_keys_keep_answers.ensures put writable)
