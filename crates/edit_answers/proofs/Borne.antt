-- Whether an identifier has bearers after edits: an unedited one that it had, or one that the edits leave.
use Rattle.std.proofs.Common.{◌≡◌, ◌||◌, Bool, true, false, List, [], ◌∷◌, ◌++◌, cond, filter, length, map, refl, sym, ap, ◌∙◌, arith}
use Rattle.std.specs.Prelude.{filter_map, nat_lt}
use Rattle.std.specs.List.{list_any}
use Rattle.std.proofs.lemmas.Bool.Decides.{nat_tests}
use Rattle.std.proofs.lemmas.List.Folds.{list_any-append}
use Rattle.s57_types.specs.declared.name.RecName.{RecName}
use Rattle.s57_types.specs.declared.name.Lnam.{Lnam}
use Rattle.cell_spec.specs.declared.edit.Edit.{Edit}
use Rattle.cell_spec.specs.Ascending.{ascending}
use Rattle.cell_spec.specs.Edits.{left_by}
use Rattle.cell_spec.specs.Lookup.{bears, name_of}
use Rattle.cell_spec.specs.Names.{name_order}
use Rattle.cell_spec.proofs.Ascending.{any-ascending}
use Rattle.cell_spec.proofs.Orders.{exact_names}
use Rattle.answer_laws.specs.EditedAnswers.{bearers_after, is_unedited}

abbrev has_some : List RecName → Bool
has_some names = list_any (λ n. true) names

some_is : (names : List RecName) → nat_lt 0 (length names) ≡ has_some names
some_is [] = refl
some_is (n ∷ names) = grind (arith, nat_tests)

kept_by : (passes : Bool) (n : RecName) (names : List RecName) (rest : Bool) → has_some names ≡ rest
    → has_some (cond passes (n ∷ names) names) ≡ (passes || rest)
kept_by true n names rest is = refl
kept_by false n names rest is = is

kept_is : (passes : RecName → Bool) (names : List RecName) → has_some (filter passes names) ≡ list_any passes names
kept_is passes [] = refl
kept_is passes (n ∷ names) = kept_by (passes n) n (filter passes names) (list_any passes names) (kept_is passes names)

pub borne_by : (edits : List Edit) (l : Lnam) (before left : List RecName)
    → left ≡ ascending name_order (map name_of (filter (bears l) (filter_map left_by edits)))
    → (list_any (is_unedited edits) before || nat_lt 0 (length left)) ≡ nat_lt 0 (length (bearers_after edits l before))
borne_by edits l before left is =
    let own : List RecName = map name_of (filter (bears l) (filter_map left_by edits)) in
    let kept : List RecName = filter (is_unedited edits) before in
    (λ i. sym (kept_is (is_unedited edits) before) i || (some_is left ∙ ap has_some is ∙ any-ascending name_order exact_names (λ n. true) own) i)
    ∙ sym (list_any-append (λ n. true) kept own)
    ∙ sym (any-ascending name_order exact_names (λ n. true) (kept ++ own))
    ∙ sym (some_is (ascending name_order (kept ++ own)))
