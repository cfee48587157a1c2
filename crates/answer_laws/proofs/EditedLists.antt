-- One list of an edited cell.
use Rattle.std.proofs.Common.{◌≡◌, true, List, filter, Option, None, Some, ap, ◌∙◌}
use Rattle.std.specs.Prelude.{IfSome, filter_map}
use Rattle.std.specs.List.{All, AllByRecursion}
use Rattle.std.proofs.lemmas.List.Elements.{recursion_from_All, All-from_recursion, All-weaker, All-filter, filter_passes}
use Rattle.s57_types.specs.declared.name.Kind.{Kind}
use Rattle.s57_types.specs.declared.record.Rec.{Rec}
use Rattle.s57_types.specs.declared.cell.Cell.{Cell}
use Rattle.cell_spec.specs.Edits.{added_by, edited_record, edited_list, list_of_kind}
use Rattle.cell_spec.specs.Lookup.{name_of}
use Rattle.cell_spec.specs.Names.{is_of_kind}
use Rattle.cell_spec.specs.declared.edit.Edit.{Edit}
use Rattle.cell_spec.proofs.Orders.{one_kind}
use Rattle.cell_spec.proofs.EachItem.{each_append}
use Rattle.answer_laws.proofs.KeptRecords.{Leaves, name_kept, property_kept, each_kept, each_added}

-- the records of a list that stay, and those that are added to it
abbrev kept_in : List Edit → List Rec → List Rec
kept_in edits rs = filter_map (edited_record edits) rs

abbrev added_to : List Edit → Kind → List Rec
added_to edits kind = filter (λ r. is_of_kind kind (name_of r)) (filter_map added_by edits)

abbrev pub IsOfKind : Kind → Rec → Type 0
IsOfKind kind r = (name_of r).kind ≡ kind

some_weaker : (P Q : Rec → Type 0) → ((r : Rec) → P r → Q r) → (o : Option Rec) → IfSome o P → IfSome o Q
some_weaker P Q weaker None h = tt
some_weaker P Q weaker (Some r) h = weaker r h

-- a list keeps its kind
pub list_is_of_kind : (edits : List Edit) (kind : Kind) (c : Cell) → AllByRecursion (IsOfKind kind) (list_of_kind kind c)
    → AllByRecursion (IsOfKind kind) (edited_list edits kind c)
list_is_of_kind edits kind c all =
    let stays : (r : Rec) → IsOfKind kind r → IfSome (edited_record edits r) (IsOfKind kind) =
    λ r is. some_weaker (λ s. name_of s ≡ name_of r) (IsOfKind kind) (λ s same. ap (λ n. n.kind) same ∙ is) (edited_record edits r) (name_kept edits r) in
    let new : All (IsOfKind kind) (added_to edits kind) =
    All-weaker (λ r. is_of_kind kind (name_of r) ≡ true) (IsOfKind kind) (λ r is. one_kind (name_of r).kind kind is) (added_to edits kind)
    (filter_passes (λ r. is_of_kind kind (name_of r)) (filter_map added_by edits)) in
    each_append (IsOfKind kind) (kept_in edits (list_of_kind kind c)) (added_to edits kind)
    (each_kept (IsOfKind kind) edits stays (list_of_kind kind c) all) (recursion_from_All (IsOfKind kind) (added_to edits kind) new)

-- what a list's records have, and what edits leave has, the edited list's records have
pub list_has : (P : Rec → Type 0) (edits : List Edit) (kind : Kind) (c : Cell) → AllByRecursion (Leaves P) edits
    → AllByRecursion P (list_of_kind kind c) → AllByRecursion P (edited_list edits kind c)
list_has P edits kind c leaves all =
    let new : All P (added_to edits kind) = All-filter (λ r. is_of_kind kind (name_of r)) P (filter_map added_by edits)
    (All-from_recursion P (filter_map added_by edits) (each_added P edits leaves)) in
    each_append P (kept_in edits (list_of_kind kind c)) (added_to edits kind)
    (each_kept P edits (λ r here. property_kept P edits r leaves here) (list_of_kind kind c) all) (recursion_from_All P (added_to edits kind) new)
