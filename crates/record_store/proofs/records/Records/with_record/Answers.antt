use Rattle.std.proofs.Common.{◌≡◌, [], ◌∷◌, sym, ap, subst, ◌∙◌}
use Rattle.std.specs.Ordering.{nat_cmp}
use Rattle.std.specs.declared.cmp.Ordering.{Ordering}
use Rattle.s57_types.specs.declared.name.RecName.{RecName}
use Rattle.s57_types.specs.declared.record.Rec.{Rec}
use Rattle.cell_spec.specs.Edits.{apply_edits}
use Rattle.cell_spec.specs.Lookup.{name_of}
use Rattle.cell_spec.specs.Names.{name_order}
use Rattle.row_spec.specs.Rows.{value_of, with_row}
use Rattle.answer_laws.specs.EditedAnswers.{FindTheirRecords}
use Rattle.record_store.specs.Lists.{AreRecords, IsPlaceFor, cell_of, rows_of, with_rows}
use Rattle.record_store.specs.declared.records.Held.{Held}
use Rattle.record_store.proofs.OneEdit.{cell_put, records_put}
use Rattle.record_store.proofs.records.Records.with_record.Goals as goal

pub returns : goal.returns
returns c = λ edit is.
    let old = c.self.inside.lists in
    let name : c.name-name.result ≡ name_of c.args.rec = c.name-name.ensures ∙ ap name_of c.deref.ensures in
    let at = subst (λ n. IsPlaceFor (value_of name_order c.self.inside.names n) (rows_of n.kind old) c.in_ok-place.place) name c.in_ok-place.ensures in
    ap (cell_of c.self.inside.head) (c.in_ok-put.ensures ∙ (λ i. with_rows (name i).kind
    (with_row nat_cmp (rows_of (name i).kind old) c.in_ok-place.place (c.in_ok-copy.ensures i)) old))
    ∙ cell_put edit c.self.inside.head c.self.inside.names old (subst (FindTheirRecords (edit ∷ [])) (sym c.self.view_is) is.finds)
    c.self.invariant.0 c.known.ensures c.edits_leave_their_records.ensures c.args.rec is.leaves c.in_ok-place.place at
    ∙ ap (apply_edits (edit ∷ [])) c.self.view_is

pub invariant_of-result : goal.invariant_of-result
invariant_of-result c =
    let inside = c.self.inside in
    let rec : Rec = c.args.rec in
    let place = c.in_ok-place.place in
    let name : c.name-name.result ≡ name_of rec = c.name-name.ensures ∙ ap name_of c.deref.ensures in
    let at = subst (λ n. IsPlaceFor (value_of name_order inside.names n) (rows_of n.kind inside.lists) place) name c.in_ok-place.ensures in
    let lists = c.in_ok-put.ensures ∙ (λ i. with_rows (name i).kind
    (with_row nat_cmp (rows_of (name i).kind inside.lists) place (c.in_ok-copy.ensures i)) inside.lists) in
    let held : Held = record { place = place; rec = rec } in
    let put = subst (λ (order : RecName → RecName → Ordering). c.put-2.new.self ≡ with_row order inside.names c.name-name.result held)
    (λ i a b. c.orders_are_by_parts.ensures.names a b i) c.in_ok-put-2.ensures.ok in
    let names = put ∙ ap (λ n. with_row name_order inside.names n held) name in
    let edit = c.requires.edit in
    let left = c.requires.is.leaves in
    let fit = subst (FindTheirRecords (edit ∷ [])) (sym c.self.view_is) c.requires.is.finds in
    let cell = cell_put edit inside.head inside.names inside.lists fit c.self.invariant.0 c.known.ensures
    c.edits_leave_their_records.ensures rec left place at in
    let after = records_put edit inside.head inside.names inside.lists fit c.self.invariant.0 c.known.ensures
    c.edits_leave_their_records.ensures rec left place at in
    let put_names = with_row name_order inside.names (name_of rec) held in
    let put_lists = with_rows (name_of rec).kind (with_row nat_cmp (rows_of (name_of rec).kind inside.lists) place rec) inside.lists in (
      subst (λ rows. AreRecords rows c.put.new.self (cell_of inside.head c.put.new.self)) (sym names)
          (subst (λ those. AreRecords put_names those (cell_of inside.head those)) (sym lists) (subst (AreRecords put_names put_lists) (sym cell) after)),
      c.self.invariant.1,
    )
