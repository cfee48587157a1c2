-- The first name that stands in both of two lists in order, gone through side by side.
use Rattle.std.proofs.Common.{◌≡◌, ◌||◌, true, false, List, [], ◌∷◌, Option, Some, None, cond, length, map, refl, sym, ap, ◌∙◌, arith}
use Rattle.std.specs.Prelude.{find}
use Rattle.std.specs.List.{list_any, AllByRecursion}
use Rattle.std.specs.List.Sorted.{IsStrictlySortedBy}
use Rattle.std.specs.Ordering.{is_eq, ordering_reverse}
use Rattle.std.specs.declared.cmp.Ordering.TheVariants.{Less, Equal, Greater}
use Rattle.s57_types.specs.declared.name.RecName.{RecName}
use Rattle.cell_spec.specs.Names.{name_order, same_name}
use Rattle.cell_spec.specs.Ascending.{ascending}
use Rattle.cell_spec.specs.Edits.{name_of_edit}
use Rattle.cell_spec.specs.declared.edit.Edit.{Edit}
use Rattle.cell_spec.proofs.Ascending.{any-ascending}
use Rattle.cell_spec.proofs.Orders.{exact_names, names_tie, same_from_either, total_names}

abbrev pub first_in_both : List RecName → List RecName → Option RecName
first_in_both names others = find (λ name. list_any (λ other. same_name name other) others) names

abbrev all_behind : RecName → List RecName → Type 0
all_behind name = AllByRecursion (λ other. name_order name other ≡ Less)

apart : (name other : RecName) → name_order name other ≡ Less → same_name other name ≡ false
apart name other e = sym (names_tie name other) ∙ ap is_eq e

behind_both : (name other : RecName) (others : List RecName) → name_order name other ≡ Less → all_behind other others → all_behind name others
behind_both name other [] e h = tt
behind_both name other (o ∷ others) e h = (total_names.trans name other o e h.0, behind_both name other others e h.1)

none_behind : (name : RecName) (others : List RecName) → all_behind name others → list_any (λ other. same_name name other) others ≡ false
none_behind name [] h = refl
none_behind name (o ∷ others) h = λ i. (same_from_either name o ∙ apart name o h.0) i || none_behind name others h.1 i

passed_by : (other : RecName) (names others : List RecName) → all_behind other names → first_in_both names (other ∷ others) ≡ first_in_both names others
passed_by other [] others h = refl
passed_by other (n ∷ names) others h = λ i. cond (apart other n h.0 i || list_any (λ o. same_name n o) others) (Some n) (passed_by other names others h.1 i)

-- a name below all others is in none of them
pub left_is_less : (name other : RecName) (names others : List RecName) → name_order name other ≡ Less → IsStrictlySortedBy name_order (other ∷ others)
    → first_in_both names (other ∷ others) ≡ first_in_both (name ∷ names) (other ∷ others)
unfolding IsStrictlySortedBy
left_is_less name other names others e sorted =
    ap (λ b. cond b (Some name) (first_in_both names (other ∷ others))) (sym (none_behind name (other ∷ others) (e, behind_both name other others e sorted.0)))

pub right_is_less : (name other : RecName) (names others : List RecName) → name_order name other ≡ Greater → IsStrictlySortedBy name_order (name ∷ names)
    → first_in_both (name ∷ names) others ≡ first_in_both (name ∷ names) (other ∷ others)
unfolding IsStrictlySortedBy
right_is_less name other names others e sorted =
    let below : name_order other name ≡ Less = total_names.antisymm other name ∙ ap ordering_reverse e in
    sym (passed_by other (name ∷ names) others (below, behind_both other name names below sorted.0))

-- the name at the front of both is the first
pub found_equal : (name other : RecName) (names others : List RecName) → name_order name other ≡ Equal
    → Some name ≡ first_in_both (name ∷ names) (other ∷ others)
found_equal name other names others e =
    let same : same_name name other ≡ true = same_from_either name other ∙ sym (names_tie name other) ∙ ap is_eq e in
    ap (λ b. cond (b || list_any (λ o. same_name name o) others) (Some name) (first_in_both names (other ∷ others))) (sym same)

pub none_in_none : (names others : List RecName) → length others ≡ 0 → None ≡ first_in_both names others
none_in_none [] others none = refl
none_in_none (n ∷ names) [] none = none_in_none names [] none
none_in_none (n ∷ names) (o ∷ others) none = absurd (omega (arith, none))

pub sorted_behind : (name : RecName) (names : List RecName) → IsStrictlySortedBy name_order (name ∷ names) → IsStrictlySortedBy name_order names
unfolding IsStrictlySortedBy
sorted_behind name names sorted = sorted.1

pub any_named : (name : RecName) (edits : List Edit) → list_any (λ other. same_name name other) (map name_of_edit edits) ≡ list_any
    (λ edit. same_name name (name_of_edit edit)) edits
any_named name [] = refl
any_named name (e ∷ edits) = ap (λ b. same_name name (name_of_edit e) || b) (any_named name edits)

-- among the names of edits in order are those of the edits
pub first_named : (names : List RecName) (edits : List Edit)
    → first_in_both names (ascending name_order (map name_of_edit edits)) ≡ find (λ name. list_any (λ edit. same_name name (name_of_edit edit)) edits) names
first_named names edits = λ i. find (λ name. (any-ascending name_order exact_names (λ other. same_name name other) (map name_of_edit edits)
    ∙ any_named name edits) i) names
