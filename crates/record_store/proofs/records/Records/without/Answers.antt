use Rattle.std.proofs.Common.{◌≡◌, [], ◌∷◌, sym, ap, subst, ◌∙◌}
use Rattle.std.specs.Ordering.{nat_cmp}
use Rattle.std.specs.declared.cmp.Ordering.{Ordering}
use Rattle.s57_types.specs.declared.name.RecName.{RecName}
use Rattle.cell_spec.specs.Edits.{apply_edits}
use Rattle.cell_spec.specs.Names.{name_order}
use Rattle.row_spec.specs.Rows.{IsAscending, without_key}
use Rattle.answer_laws.specs.EditedAnswers.{FindTheirRecords}
use Rattle.record_store.specs.Lists.{AreRecords, cell_of, rows_of, with_rows}
use Rattle.record_store.proofs.OneEdit.{cell_gone, records_gone}
use Rattle.record_store.proofs.records.Records.without.Goals as goal

pub returns : goal.returns
returns c =
    let inside = c.self.inside in
    let rise = subst (λ (order : RecName → RecName → Ordering). IsAscending order inside.names)
    (λ i a b. c.orders_are_by_parts.ensures.names a b i) c.len-count.ensures.ascending in
    ap (cell_of inside.head) c.in_ok-take.ensures
    ∙ cell_gone c.args.edit.now inside.head inside.names inside.lists (subst (FindTheirRecords (c.args.edit.now ∷ [])) (sym c.self.view_is) c.requires.found)
    c.self.invariant.0 c.known.ensures c.edits_leave_their_records.ensures c.args.name c.requires.deletes c.in_ok-place.place rise c.in_ok-place.ensures
    ∙ ap (apply_edits (c.args.edit.now ∷ [])) c.self.view_is

pub invariant_of-result : goal.invariant_of-result
invariant_of-result c =
    let inside = c.self.inside in
    let both = subst (λ (order : RecName → RecName → Ordering). IsAscending order inside.names
    × (c.take-2.new.self ≡ without_key order inside.names c.args.name))
    (λ i a b. c.orders_are_by_parts.ensures.names a b i) (c.len-count.ensures.ascending, c.in_ok-take-2.ensures.ok) in
    let fit = subst (FindTheirRecords (c.args.edit.now ∷ [])) (sym c.self.view_is) c.requires.found in
    let cell = cell_gone c.args.edit.now inside.head inside.names inside.lists fit c.self.invariant.0 c.known.ensures
    c.edits_leave_their_records.ensures c.args.name c.requires.deletes c.in_ok-place.place both.0 c.in_ok-place.ensures in
    let after = records_gone c.args.edit.now inside.head inside.names inside.lists fit c.self.invariant.0 c.known.ensures
    c.edits_leave_their_records.ensures c.args.name c.requires.deletes c.in_ok-place.place both.0 c.in_ok-place.ensures in
    let gone_names = without_key name_order inside.names c.args.name in
    let gone_lists = with_rows c.args.name.kind (without_key nat_cmp (rows_of c.args.name.kind inside.lists) c.in_ok-place.place) inside.lists in (
      subst (λ rows. AreRecords rows c.take.new.self (cell_of inside.head c.take.new.self)) (sym both.1)
          (subst (λ those. AreRecords gone_names those (cell_of inside.head those)) (sym c.in_ok-take.ensures)
          (subst (AreRecords gone_names gone_lists) (sym cell) after)),
      c.self.invariant.1,
    )
