-- Edits that a writable cell takes each have a line.
use Rattle.std.proofs.Common.{◌≡◌, ℕ, Bool, true, false, ◌&&◌, not, List, [], ◌∷◌, ◌++◌, Option, Some, None, length, refl, ap, ◌∙◌, if◌then◌else◌, nat_lt}
use Rattle.std.proofs.Common.{nat_le}
use Rattle.std.specs.Prelude.{All, cond, find, is_some}
use Rattle.std.specs.List.{AllByRecursion, list_all}
use Rattle.std.proofs.lemmas.Bool.{and_parts, and_from}
use Rattle.std.proofs.lemmas.List.Elements.{recursion_from_All, All-from_recursion}
use Rattle.s57_types.specs.Fitness.{unfitness, has_good_names, has_good_texts, is_feature_kind, is_vector_kind}
use Rattle.s57_types.specs.RecordFields.{length_limit, written_length}
use Rattle.s57_types.specs.declared.fault.Unfit.{Unfit}
use Rattle.s57_types.specs.declared.fault.Unfit.TheVariants.{BadName, BadText, TooLong}
use Rattle.s57_types.specs.declared.name.Kind.{Kind}
use Rattle.s57_types.specs.declared.name.Kind.TheVariants.{Vi, Vc, Ve, Fe, Head as HeadKind}
use Rattle.s57_types.specs.declared.name.RecName.{RecName}
use Rattle.s57_types.specs.declared.record.End.{End}
use Rattle.s57_types.specs.declared.record.Spot.{Spot}
use Rattle.s57_types.specs.declared.record.Rec.{Rec}
use Rattle.s57_types.specs.declared.record.Rec.TheVariants.{V, F, H}
use Rattle.s57_types.specs.declared.cell.Cell.{Cell}
use Rattle.cell_spec.specs.Edits.{apply_edits, find_their_records, has_its_record, leave_a_long_head}
use Rattle.cell_spec.specs.Lookup.{all_records, is_named, name_of}
use Rattle.cell_spec.specs.Names.{same_name}
use Rattle.cell_spec.specs.Writable.{IsWritable, record_limit}
use Rattle.cell_spec.specs.declared.edit.Edit.{Edit}
use Rattle.cell_spec.specs.declared.edit.Edit.TheVariants.{Add, Set, Del, Head}
use Rattle.cell_spec.proofs.Orders.{one_when_same}
use Rattle.edit_sets.specs.FormFault.{IsFormed, unfitness_of_edit}
use Rattle.edit_sets.proofs.Formed.{formed}
use Rattle.cell_spec.proofs.EachItem.{each_append, each_weaker}
use Rattle.text_spec.specs.EditLine.{has_line, is_head, record_has_line}
use Rattle.answer_laws.proofs.EditedLists.{IsOfKind}
use Rattle.edit_laws.specs.KeptWritable.{TakenEditsHaveLines}

-- a record that can be written has good names
good_names : (good : Bool) (rest : Option Unfit) → (if not good then Some BadName else rest) ≡ None → good ≡ true
good_names true rest none = refl
good_names false rest none = absurd cc

vector_name : (kind : Kind) → is_vector_kind kind ≡ true → (not (is_feature_kind kind) && not (is_head kind)) ≡ true
vector_name Vi is = refl
vector_name Vc is = refl
vector_name Ve is = refl
vector_name Fe is = absurd cc
vector_name HeadKind is = absurd cc

no_head : {X : Type 0} (target : X → RecName) (xs : List X) → list_all (λ x. is_vector_kind (target x).kind) xs ≡ true
    → list_all (λ x. not (is_head (target x).kind)) xs ≡ true
no_head target [] all = refl
no_head target (x ∷ xs) all =
    let parts = and_parts (is_vector_kind (target x).kind) (list_all (λ y. is_vector_kind (target y).kind) xs) all in
    let vector = and_parts (not (is_feature_kind (target x).kind)) (not (is_head (target x).kind)) (vector_name (target x).kind parts.0) in
    and_from (not (is_head (target x).kind)) (list_all (λ y. not (is_head (target y).kind)) xs) vector.1 (no_head target xs parts.1)

named_well : (rec : Rec) → has_good_names rec ≡ true → record_has_line rec ≡ true
named_well (V v) good =
    let parts = and_parts (is_vector_kind v.name.kind) (list_all (λ (e : End). is_vector_kind e.to.kind) v.ends) good in
    and_from (not (is_feature_kind v.name.kind) && not (is_head v.name.kind)) (list_all (λ (e : End). not (is_head e.to.kind)) v.ends)
    (vector_name v.name.kind parts.0) (no_head (λ (e : End). e.to) v.ends parts.1)
named_well (F f) good =
    let parts = and_parts (is_feature_kind f.name.kind) (list_all (λ (s : Spot). is_vector_kind s.to.kind) f.places) good in
    and_from (is_feature_kind f.name.kind) (list_all (λ (s : Spot). not (is_head s.to.kind)) f.places) parts.0
    (no_head (λ (s : Spot). s.to) f.places parts.1)
named_well (H h) good = absurd cc

fit_has_line : (nall : ℕ) (rec : Rec) → unfitness nall rec ≡ None → record_has_line rec ≡ true
unfolding unfitness
fit_has_line nall rec none =
    named_well rec (good_names (has_good_names rec) (if not (has_good_texts nall rec) then Some BadText else
    (if nat_lt length_limit (written_length nall rec) then Some TooLong else None)) none)

-- no record of a writable cell has the name of a head
abbrev IsListed : Rec → Type 0
IsListed r = is_head (name_of r).kind ≡ false

all_listed : (c : Cell) → IsWritable c → AllByRecursion IsListed (all_records c)
all_listed c w =
    let of_kind : (kind : Kind) → is_head kind ≡ false → (rs : List Rec) → All (IsOfKind kind) rs → AllByRecursion IsListed rs =
    λ kind other rs all. each_weaker (IsOfKind kind) IsListed (λ r is. ap is_head is ∙ other) rs (recursion_from_All (IsOfKind kind) rs all) in
    let vi = of_kind Vi refl c.vi w.isolated_nodes in
    let vc = of_kind Vc refl c.vc w.connected_nodes in
    let ve = of_kind Ve refl c.ve w.edges in
    let fe = of_kind Fe refl c.fe w.features in
    each_append IsListed (c.vi ++ c.vc ++ c.ve) c.fe (each_append IsListed (c.vi ++ c.vc) c.ve (each_append IsListed c.vi c.vc vi vc) ve) fe

found_by : (n : RecName) (r : Rec) (named : Bool) (later : Option Rec) → same_name n (name_of r) ≡ named → IsListed r
    → (is_some later ≡ true → is_head n.kind ≡ false) → is_some (cond named (Some r) later) ≡ true
    → is_head n.kind ≡ false
found_by n r true later is listed others found = ap (λ (m : RecName). is_head m.kind) (one_when_same n (name_of r) is) ∙ listed
found_by n r false later is listed others found = others found

found_is_listed : (n : RecName) (rs : List Rec) → AllByRecursion IsListed rs → is_some (find (is_named n) rs) ≡ true → is_head n.kind ≡ false
found_is_listed n [] all found = absurd cc
found_is_listed n (r ∷ rs) all found = found_by n r (is_named n r) (find (is_named n) rs) refl all.0 (found_is_listed n rs all.1) found

edit_has_line : (c : Cell) (edit : Edit) → IsWritable c → unfitness_of_edit c.head.nall edit ≡ None → has_its_record c edit ≡ true → has_line edit ≡ true
edit_has_line c (Add r) w fit has = fit_has_line c.head.nall r fit
edit_has_line c (Set r) w fit has = fit_has_line c.head.nall r fit
edit_has_line c (Del n) w fit has = ap not (found_is_listed n (all_records c) (all_listed c w) has)
edit_has_line c (Head e) w fit has = refl

each_has_line : (c : Cell) (edits : List Edit) → IsWritable c → AllByRecursion (λ edit. unfitness_of_edit c.head.nall edit ≡ None) edits
    → list_all (has_its_record c) edits ≡ true
    → AllByRecursion (λ edit. has_line edit ≡ true) edits
each_has_line c [] w fit all = tt
each_has_line c (edit ∷ edits) w fit all =
    let parts = and_parts (has_its_record c edit) (list_all (has_its_record c) edits) all in
    (edit_has_line c edit w fit.0 parts.0, each_has_line c edits w fit.1 parts.1)

pub taken_edits_have_lines : TakenEditsHaveLines
taken_edits_have_lines c edits guards w no_fault applicable =
    let form : IsFormed c.head.nall edits guards = formed c.head.nall edits guards no_fault in
    let fit = recursion_from_All (λ edit. unfitness_of_edit c.head.nall edit ≡ None) edits form.fit in
    let taken = and_parts (find_their_records edits c) (nat_le (length (all_records (apply_edits edits c))) record_limit && not
    (leave_a_long_head edits c)) applicable in
    All-from_recursion (λ edit. has_line edit ≡ true) edits (each_has_line c edits w fit taken.0)
