-- What records have, and what edits leave has, edited records have.
use Rattle.std.proofs.Common.{◌≡◌, Bool, true, false, List, [], ◌∷◌, Option, None, Some, refl}
use Rattle.std.specs.Prelude.{cond, IfSome, filter_map, find}
use Rattle.std.specs.List.{AllByRecursion, cons_option}
use Rattle.s57_types.specs.declared.record.Rec.{Rec}
use Rattle.cell_spec.specs.Edits.{name_of_edit, added_by, left_by, changed_by, edited_record}
use Rattle.cell_spec.specs.Lookup.{name_of}
use Rattle.cell_spec.specs.Names.{same_name}
use Rattle.cell_spec.specs.declared.edit.Edit.{Edit}
use Rattle.cell_spec.specs.declared.edit.Edit.TheVariants.{Add, Set, Del, Head}
use Rattle.cell_spec.proofs.Orders.{one_when_same}

-- the record that an edit leaves has a property
abbrev pub Leaves : (Rec → Type 0) → Edit → Type 0
Leaves P edit = IfSome (left_by edit) P

name_kept_by : (r : Rec) (edit : Edit) (named : Bool) → same_name (name_of_edit edit) (name_of r) ≡ named → (later : Option Edit)
    → IfSome (changed_by r later) (λ s. name_of s ≡ name_of r)
    → IfSome (changed_by r (cond named (Some edit) later)) (λ s. name_of s ≡ name_of r)
name_kept_by r (Add s) true is later rest = refl
name_kept_by r (Set s) true is later rest = one_when_same (name_of s) (name_of r) is
name_kept_by r (Del n) true is later rest = tt
name_kept_by r (Head e) true is later rest = refl
name_kept_by r edit false is later rest = rest

-- a record keeps its name
pub name_kept : (edits : List Edit) (r : Rec) → IfSome (edited_record edits r) (λ s. name_of s ≡ name_of r)
name_kept [] r = refl
name_kept (edit ∷ edits) r =
    name_kept_by r edit (same_name (name_of_edit edit) (name_of r)) refl (find (λ other. same_name (name_of_edit other) (name_of r)) edits) (name_kept edits r)

property_kept_by : (P : Rec → Type 0) (r : Rec) (edit : Edit) (named : Bool) (later : Option Edit) → P r → Leaves P edit
    → IfSome (changed_by r later) P → IfSome (changed_by r (cond named (Some edit) later)) P
property_kept_by P r (Add s) true later here leaves rest = here
property_kept_by P r (Set s) true later here leaves rest = leaves
property_kept_by P r (Del n) true later here leaves rest = tt
property_kept_by P r (Head e) true later here leaves rest = here
property_kept_by P r edit false later here leaves rest = rest

-- what a record has, and what edits leave has, the edited record has
pub property_kept : (P : Rec → Type 0) (edits : List Edit) (r : Rec) → AllByRecursion (Leaves P) edits → P r → IfSome (edited_record edits r) P
property_kept P [] r leaves here = here
property_kept P (edit ∷ edits) r leaves here =
    property_kept_by P r edit (same_name (name_of_edit edit) (name_of r)) (find (λ other. same_name (name_of_edit other) (name_of r)) edits)
    here leaves.0 (property_kept P edits r leaves.1 here)

each_cons : (P : Rec → Type 0) (o : Option Rec) (rest : List Rec) → IfSome o P → AllByRecursion P rest → AllByRecursion P (cons_option o rest)
each_cons P None rest one others = others
each_cons P (Some s) rest one others = (one, others)

-- what each record makes of itself
pub each_kept : (P : Rec → Type 0) (edits : List Edit) → ((r : Rec) → P r → IfSome (edited_record edits r) P) → (rs : List Rec)
    → AllByRecursion P rs → AllByRecursion P (filter_map (edited_record edits) rs)
each_kept P edits keeps [] all = tt
each_kept P edits keeps (r ∷ rs) all = each_cons P (edited_record edits r) (filter_map (edited_record edits) rs) (keeps r all.0)
    (each_kept P edits keeps rs all.1)

added_is : (P : Rec → Type 0) (edit : Edit) → Leaves P edit → IfSome (added_by edit) P
added_is P (Add s) leaves = leaves
added_is P (Set s) leaves = tt
added_is P (Del n) leaves = tt
added_is P (Head e) leaves = tt

-- what edits leave has, additions have
pub each_added : (P : Rec → Type 0) (edits : List Edit) → AllByRecursion (Leaves P) edits → AllByRecursion P (filter_map added_by edits)
each_added P [] leaves = tt
each_added P (edit ∷ edits) leaves = each_cons P (added_by edit) (filter_map added_by edits) (added_is P edit leaves.0) (each_added P edits leaves.1)
