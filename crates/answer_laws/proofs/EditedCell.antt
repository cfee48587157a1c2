-- A writable cell is writable after edits that it takes.
use Rattle.std.proofs.Common.{◌≡◌, ℕ, List, ◌++◌, length, None, sym, subst, arith}
use Rattle.std.specs.Prelude.{◌&&◌, not, nat_le}
use Rattle.std.specs.List.{All, AllByRecursion}
use Rattle.std.proofs.lemmas.Bool.{and_parts, leb-true, not-true}
use Rattle.std.proofs.lemmas.List.Elements.{recursion_from_All, All-from_recursion}
use Rattle.s57_types.specs.Fitness.{unfitness}
use Rattle.s57_types.specs.declared.name.Kind.{Kind}
use Rattle.s57_types.specs.declared.name.Kind.TheVariants.{Vi, Vc, Ve, Fe, Head as HeadKind}
use Rattle.s57_types.specs.declared.record.Rec.{Rec}
use Rattle.s57_types.specs.declared.cell.Cell.{Cell}
use Rattle.cell_spec.specs.Edits.{list_of_kind, edited_list, apply_edits, find_their_records, leave_a_long_head}
use Rattle.cell_spec.specs.Lookup.{all_records}
use Rattle.cell_spec.specs.Readable.{IsReadable}
use Rattle.cell_spec.specs.Writable.{AreFit, record_limit}
use Rattle.cell_spec.specs.declared.edit.Edit.{Edit}
use Rattle.cell_spec.specs.declared.edit.Edit.TheVariants.{Add, Set, Del, Head}
use Rattle.edit_sets.specs.FormFault.{unfitness_of_edit, IsFormed}
use Rattle.edit_sets.proofs.Formed.{formed}
use Rattle.answer_laws.specs.EditedCells.{EditsKeepWritable}
use Rattle.cell_spec.proofs.EachItem.{each_append, each_front, each_back, each_weaker}
use Rattle.answer_laws.proofs.EditedHead.{head_is_fit, level_kept}
use Rattle.answer_laws.proofs.EditedLists.{IsOfKind, list_is_of_kind, list_has}
use Rattle.answer_laws.proofs.EditedNames.{distinct_after}
use Rattle.answer_laws.proofs.FormedEdits.{find_theirs}
use Rattle.answer_laws.proofs.KeptRecords.{Leaves}

-- what an edit set's edits leave can be written
leaves_fit : (nall : ℕ) (edit : Edit) → unfitness_of_edit nall edit ≡ None → Leaves (λ r. unfitness nall r ≡ None) edit
leaves_fit nall (Add s) fit = fit
leaves_fit nall (Set s) fit = fit
leaves_fit nall (Del n) fit = tt
leaves_fit nall (Head e) fit = tt

-- the lists of a cell
pub each_of_kind : (P : Rec → Type 0) (kind : Kind) (c : Cell) → AllByRecursion P (all_records c) → AllByRecursion P (list_of_kind kind c)
each_of_kind P Vi c all = each_front P c.vi c.vc (each_front P (c.vi ++ c.vc) c.ve (each_front P (c.vi ++ c.vc ++ c.ve) c.fe all))
each_of_kind P Vc c all = each_back P c.vi c.vc (each_front P (c.vi ++ c.vc) c.ve (each_front P (c.vi ++ c.vc ++ c.ve) c.fe all))
each_of_kind P Ve c all = each_back P (c.vi ++ c.vc) c.ve (each_front P (c.vi ++ c.vc ++ c.ve) c.fe all)
each_of_kind P Fe c all = each_back P (c.vi ++ c.vc ++ c.ve) c.fe all
each_of_kind P HeadKind c all = tt

pub edits_keep_writable : EditsKeepWritable
unfolding apply_edits
edits_keep_writable c edits guards w no_fault applicable =
    let form : IsFormed c.head.nall edits guards = formed c.head.nall edits guards no_fault in
    let many = nat_le (length (all_records (apply_edits edits c))) record_limit in
    let parts = and_parts (find_their_records edits c) (many && not (leave_a_long_head edits c)) applicable in
    let sizes = and_parts many (not (leave_a_long_head edits c)) parts.1 in
    let fits : Rec → Type 0 = λ r. unfitness c.head.nall r ≡ None in
    let each = recursion_from_All (λ edit. unfitness_of_edit c.head.nall edit ≡ None) edits form.fit in
    let leaves : AllByRecursion (Leaves fits) edits = each_weaker (λ edit. unfitness_of_edit c.head.nall edit ≡ None) (Leaves fits)
    (leaves_fit c.head.nall) edits (each) in
    let fit_before : AllByRecursion fits (all_records c) = recursion_from_All fits (all_records c) w.records_fit in
    let fit : (kind : Kind) → AllByRecursion fits (edited_list edits kind c) =
    λ kind. list_has fits edits kind c leaves (each_of_kind fits kind c fit_before) in
    let of_kind : (kind : Kind) → AllByRecursion (IsOfKind kind) (list_of_kind kind c) → All (IsOfKind kind) (edited_list edits kind c) =
    λ kind before. All-from_recursion (IsOfKind kind) (edited_list edits kind c) (list_is_of_kind edits kind c before) in
    let lists : Kind → List Rec = λ kind. edited_list edits kind c in
    let all_fit : All fits (lists Vi ++ lists Vc ++ lists Ve ++ lists Fe) =
    All-from_recursion fits (lists Vi ++ lists Vc ++ lists Ve ++ lists Fe)
    (each_append fits (lists Vi ++ lists Vc ++ lists Ve) (lists Fe)
    (each_append fits (lists Vi ++ lists Vc) (lists Ve) (each_append fits (lists Vi) (lists Vc) (fit Vi) (fit Vc)) (fit Ve)) (fit Fe)) in
    let readable : IsReadable c = record { distinct = w.names_distinct; count = omega (arith, w.not_too_many); fit = w.records_fit } in
    record {
      head_fits = head_is_fit c.head.nall c.head edits w.head_fits each (not-true (leave_a_long_head edits c) sizes.1);
      isolated_nodes = of_kind Vi (recursion_from_All (IsOfKind Vi) c.vi w.isolated_nodes);
      connected_nodes = of_kind Vc (recursion_from_All (IsOfKind Vc) c.vc w.connected_nodes);
      edges = of_kind Ve (recursion_from_All (IsOfKind Ve) c.ve w.edges);
      features = of_kind Fe (recursion_from_All (IsOfKind Fe) c.fe w.features);
      records_fit = subst (λ nall. AreFit nall (lists Vi ++ lists Vc ++ lists Ve ++ lists Fe)) (sym (level_kept edits c.head)) all_fit;
      names_distinct = distinct_after edits c (find_theirs c edits guards readable form parts.0);
      not_too_many = leb-true (length (all_records (apply_edits edits c))) record_limit sizes.0;
    }
