-- The places of edits, noted one after the other and found by their names.
use Rattle.std.proofs.Common.{◌≡◌, ℕ, ◌+◌, ◌<◌, ◌⊎◌, inl, inr, ◌==◌, ◌||◌, Bool, true, false, List, [], ◌∷◌, ◌++◌, Option, Some, None}
use Rattle.std.proofs.Common.{length, map, get_or, set, replicate, cond, refl, sym, ◌∙◌, ap, subst, arith, length-append, length-set}
use Rattle.std.specs.Prelude.{slice_get, option_and_then, is_some, nat_lt, IfSome}
use Rattle.std.specs.Borrow.{Bor}
use Rattle.std.specs.List.{list_any}
use Rattle.std.specs.List.Sorted.{IsSorted, IsStrictlySortedBy, IsNonDecreasingBy, IsPartitionPoint}
use Rattle.std.specs.Option.{option_copied, option_or}
use Rattle.std.specs.Ordering.{is_eq, is_lt, ordering_index, ordering_reverse}
use Rattle.std.specs.declared.cmp.Ordering.TheVariants.{Less, Equal, Greater}
use Rattle.std.proofs.Math.ListN.{get_or-append}
use Rattle.std.proofs.Math.Seq.{get_or-append_seam}
use Rattle.std.proofs.lemmas.Bool.{and_from, cases_lt, cases_order, eq-eqb, ltb-false, ltb-true}
use Rattle.std.proofs.lemmas.Grind.{get_or-set_at}
use Rattle.std.proofs.lemmas.List.{get_or-replicate, get_or-set_other, length-replicate}
use Rattle.std.proofs.lemmas.List.Folds.{find-append, list_any_at, list_any_none}
use Rattle.std.proofs.lemmas.List.Sorted.{searchable_from_sorted}
use Rattle.std.proofs.lemmas.Map.Keys.{Less-from_sorted}
use Rattle.std.proofs.lemmas.Option.{get_or_from_slice_get, slice_get-get_or, slice_get_past, slice_get_read, slice_get_within}
use Rattle.s57_types.specs.declared.name.RecName.{RecName}
use Rattle.cell_spec.specs.Ascending.{ascending}
use Rattle.cell_spec.specs.Edits.{edit_of, name_of_edit}
use Rattle.cell_spec.specs.Names.{kind_rank, name_order, same_name}
use Rattle.cell_spec.specs.declared.edit.Edit.{Edit}
use Rattle.cell_spec.specs.declared.edit.Edit.TheVariants.{Del}
use Rattle.cell_spec.proofs.Ascending.{holds-ascending, sorted-ascending}
use Rattle.cell_spec.proofs.Orders.{exact_names, names_tie, same_from_either, total_names}
use Rattle.edit_sets.specs.FormFault.{has_edit_of}
use Rattle.edit_sets.specs.Places.{ArePlaces, IsPlaceOf}

-- ---- a name among names in order
sorted_names : (names : List RecName) → IsStrictlySortedBy name_order names → IsSorted name_order names
sorted_names names rises = λ k d low within. ap is_lt (total_names.antisymm (get_or names (k + 1) d) (get_or names k d)
    ∙ ap ordering_reverse (Less-from_sorted name_order names k (k + 1) d rises (omega arith) within))

-- a name that a search doesn't find is none of the names
pub none_there : (names : List RecName) (name : RecName) (i : ℕ) → IsStrictlySortedBy name_order names
    → (IsNonDecreasingBy (λ y. ordering_index (name_order y name)) names → IsPartitionPoint (λ y. name_order y name ≡ Less)
    (λ y. name_order y name ≡ Greater) names i)
    → list_any (λ other. same_name other name) names ≡ false
none_there names name i rises cut =
    let parts = cut (searchable_from_sorted total_names (λ n. n) names name (sorted_names names rises)) in
    list_any_none (λ other. same_name other name) names (λ k d within.
    let found = get_or names k d in
    let turned = total_names.antisymm name found in
    let apart : is_eq (name_order name found) ≡ false = elim (cases_lt k i) [
      | inl h ↦ ap is_eq (turned ∙ ap ordering_reverse (parts.0 k d (omega arith) h))
      | inr h ↦ ap is_eq (turned ∙ ap ordering_reverse (parts.1 k d h within))
    ] in
    sym (names_tie name found) ∙ apart)

-- a name that a search finds is there
pub one_there : (names : List RecName) (name : RecName) (place : ℕ) → place < length names
    → ((d : RecName) → name_order (get_or names place d) name ≡ Equal) → slice_get names place ≡ Some name
one_there names name place within ties = slice_get-get_or names place name within ∙ ap Some (exact_names (get_or names place name) name (ties name))

same_itself : (n : RecName) → same_name n n ≡ true
same_itself n = and_from (kind_rank n.kind == kind_rank n.kind) (n.id == n.id) (eq-eqb (kind_rank n.kind) (kind_rank n.kind) refl) (eq-eqb n.id n.id refl)

any_mapped : (p : RecName → Bool) (edits : List Edit) → list_any p (map name_of_edit edits) ≡ list_any (λ edit. p (name_of_edit edit)) edits
any_mapped p [] = refl
any_mapped p (edit ∷ edits) = ap (λ b. p (name_of_edit edit) || b) (any_mapped p edits)

-- the ascending names are those of the edits
pub any_named : (edits : List Edit) (names : List RecName) (name : RecName) → names ≡ ascending name_order (map name_of_edit edits)
    → list_any (λ other. same_name other name) names ≡ has_edit_of name edits
any_named edits names name is =
    ap (list_any (λ other. same_name other name)) is
    ∙ (λ i. list_any (λ other. sym (names_tie name other) i) (ascending name_order (map name_of_edit edits)))
    ∙ holds-ascending name_order exact_names name (map name_of_edit edits)
    ∙ (λ i. list_any (λ other. names_tie name other i) (map name_of_edit edits))
    ∙ any_mapped (λ other. same_name other name) edits

pub own_name : (edits : List Edit) (names : List RecName) (k : ℕ) (edit : Edit) → names ≡ ascending name_order (map name_of_edit edits)
    → k < length edits → edit ≡ get_or edits k edit
    → list_any (λ other. same_name other (name_of_edit edit)) names ≡ true
own_name edits names k edit is within here =
    any_named edits names (name_of_edit edit) is
    ∙ list_any_at (λ other. same_name (name_of_edit other) (name_of_edit edit)) edits k edit within
    (ap (λ other. same_name (name_of_edit other) (name_of_edit edit)) (sym here) ∙ same_itself (name_of_edit edit))

pub names_rise : (edits : List Edit) (names : List RecName) → names ≡ ascending name_order (map name_of_edit edits) → IsStrictlySortedBy name_order names
names_rise edits names is = subst (IsStrictlySortedBy name_order) (sym is) (sorted-ascending name_order total_names (map name_of_edit edits))

-- ---- the place of the edit of a name
some_found_by : (edit : Edit) (later : Option Edit) (named rest : Bool) → is_some later ≡ rest → is_some (cond named (Some edit) later) ≡ (named || rest)
some_found_by edit later true rest is = refl
some_found_by edit later false rest is = is

some_found : (name : RecName) (edits : List Edit) → is_some (edit_of name edits) ≡ has_edit_of name edits
some_found name [] = refl
some_found name (edit ∷ edits) = some_found_by edit (edit_of name edits) (same_name (name_of_edit edit) name) (has_edit_of name edits) (some_found name edits)

pub has_place : (edits : List Edit) (name : RecName) (place : Option ℕ) → IsPlaceOf edits name place → has_edit_of name edits ≡ is_some place
has_place edits name None is = sym (some_found name edits) ∙ ap is_some is
has_place edits name (Some place) is = sym (some_found name edits) ∙ ap is_some (sym is.1 ∙ slice_get-get_or edits place (Del name) is.0)

pub found_at_place : (edits : List Edit) (name : RecName) (place : Option ℕ) → IsPlaceOf edits name place
    → option_and_then (slice_get edits) place ≡ edit_of name edits
found_at_place edits name None is = sym is
found_at_place edits name (Some place) is = is.1

none_when : (o : Option Edit) → is_some o ≡ false → o ≡ None
none_when None h = refl
none_when (Some edit) h = absurd cc

pub no_edit : (edits : List Edit) (name : RecName) → has_edit_of name edits ≡ false → None ≡ edit_of name edits
no_edit edits name none = sym (none_when (edit_of name edits) (some_found name edits ∙ none))

at_front : {X : Type 0} (xs ys : List X) (k : ℕ) (d : X) → k < length xs → slice_get (xs ++ ys) k ≡ slice_get xs k
at_front xs ys k d within =
    slice_get-get_or (xs ++ ys) k d (omega (arith, within, length-append xs ys)) ∙ ap Some (get_or-append xs ys d k within)
    ∙ sym (slice_get-get_or xs k d within)

at_end : {X : Type 0} (xs : List X) (y : X) → slice_get (xs ++ (y ∷ [])) (length xs) ≡ Some y
at_end xs y = slice_get-get_or (xs ++ (y ∷ [])) (length xs) y (omega (arith, length-append xs (y ∷ []))) ∙ ap Some (get_or-append_seam xs y [] y)

edit_more : (name : RecName) (earlier : List Edit) (edit : Edit) (found : Option Edit) (named : Bool) → edit_of name earlier ≡ found
    → same_name (name_of_edit edit) name ≡ named
    → edit_of name (earlier ++ (edit ∷ [])) ≡ option_or found (cond named (Some edit) None)
edit_more name earlier edit found named is same =
    find-append (λ other. same_name (name_of_edit other) name) earlier (edit ∷ []) ∙ (λ i. option_or (is i) (cond (same i) (Some edit) None))

kept_place : (earlier : List Edit) (edit : Edit) (name : RecName) (place : Option ℕ) → same_name (name_of_edit edit) name ≡ false
    → IsPlaceOf earlier name place → IsPlaceOf (earlier ++ (edit ∷ [])) name place
kept_place earlier edit name None other is = edit_more name earlier edit None false is other
kept_place earlier edit name (Some place) other is =
    let there : slice_get earlier place ≡ Some (get_or earlier place edit) = slice_get-get_or earlier place edit is.0 in (
      (let inside = is.0 in omega (arith, inside, length-append earlier (edit ∷ []))),
      at_front earlier (edit ∷ []) place edit is.0 ∙ there
          ∙ sym (edit_more name earlier edit (Some (get_or earlier place edit)) false (sym is.1 ∙ there) other),
    )

new_place : (earlier : List Edit) (edit : Edit) (name : RecName) → same_name (name_of_edit edit) name ≡ true → edit_of name earlier ≡ None
    → IsPlaceOf (earlier ++ (edit ∷ [])) name (Some (length earlier))
new_place earlier edit name same none = (
  omega (arith, length-append earlier (edit ∷ [])),
  at_end earlier edit ∙ sym (edit_more name earlier edit None true none same),
)

-- ---- the places of names
pub none_noted : (names : List RecName) (places : List (Option ℕ)) → places ≡ replicate (length names) None → ArePlaces [] names places
none_noted names places is = subst (ArePlaces [] names) (sym is) (record {
  as_many = length-replicate (length names) None;
  each = λ i d within. subst (IsPlaceOf [] (get_or names i d)) (sym (get_or-replicate (length names) i None None within)) refl;
})

other_name : (names : List RecName) (k j : ℕ) (d : RecName) → IsStrictlySortedBy name_order names → k < length names → j < length names
    → (k < j) ⊎ (j < k) → same_name (get_or names k d) (get_or names j d) ≡ false
other_name names k j d rises k_within j_within (inl before) =
    same_from_either (get_or names k d) (get_or names j d) ∙ sym (names_tie (get_or names k d) (get_or names j d))
    ∙ ap is_eq (Less-from_sorted name_order names k j d rises before j_within)
other_name names k j d rises k_within j_within (inr behind) =
    sym (names_tie (get_or names j d) (get_or names k d)) ∙ ap is_eq (Less-from_sorted name_order names j k d rises behind k_within)

-- the place of one more edit is noted at its name
pub one_noted : (names : List RecName) (places : List (Option ℕ)) (earlier : List Edit) (edit : Edit) (k place : ℕ)
    → IsStrictlySortedBy name_order names → ArePlaces earlier names places
    → slice_get names k ≡ Some (name_of_edit edit) → get_or places k None ≡ None → length earlier ≡ place
    → ArePlaces (earlier ++ (edit ∷ [])) names (set places k (Some place))
one_noted names places earlier edit k place rises are named free count =
    let inside : k < length names = slice_get_within names k (name_of_edit edit) named in
    let room : k < length places = (let many = are.as_many in omega (arith, inside, many)) in
    record {
      as_many = length-set places k (Some place) ∙ are.as_many;
      each = λ j d within. by j d within (cases_order j k);
    }
  where
    by : (j : ℕ) (d : RecName) → j < length names → (j ≡ k) ⊎ ((j < k) ⊎ (k < j))
        → IsPlaceOf (earlier ++ (edit ∷ [])) (get_or names j d) (get_or (set places k (Some place)) j None)
    by j d within (inl here) =
        let name : get_or names j d ≡ name_of_edit edit = ap (λ n. get_or names n d) here ∙ get_or_from_slice_get names k (name_of_edit edit) d named in
        let inside : k < length places = (let many = are.as_many in let in_names = slice_get_within names k (name_of_edit edit) named in
        omega (arith, many, in_names)) in
        let noted : get_or (set places k (Some place)) j None ≡ Some place = get_or-set_at places k j (Some place) None here inside in
        let before : IsPlaceOf earlier (name_of_edit edit) None =
        subst (λ p. IsPlaceOf earlier (name_of_edit edit) p) free
        (subst (λ n. IsPlaceOf earlier n (get_or places k None)) (get_or_from_slice_get names k (name_of_edit edit) d named)
        (are.each k d (slice_get_within names k (name_of_edit edit) named))) in
        let new : IsPlaceOf (earlier ++ (edit ∷ [])) (name_of_edit edit) (Some (length earlier)) =
        new_place earlier edit (name_of_edit edit) (same_itself (name_of_edit edit)) before in
        subst (IsPlaceOf (earlier ++ (edit ∷ [])) (get_or names j d)) (sym noted)
        (subst (λ n. IsPlaceOf (earlier ++ (edit ∷ [])) n (Some place)) (sym name)
        (subst (λ p. IsPlaceOf (earlier ++ (edit ∷ [])) (name_of_edit edit) (Some p)) count new))
    by j d within (inr apart) =
        let in_names = slice_get_within names k (name_of_edit edit) named in
        let other : same_name (name_of_edit edit) (get_or names j d) ≡ false =
        ap (λ n. same_name n (get_or names j d)) (sym (get_or_from_slice_get names k (name_of_edit edit) d named))
        ∙ other_name names k j d rises in_names within (elim apart [ inl h ↦ inr h | inr h ↦ inl h ]) in
        let stays : get_or (set places k (Some place)) j None ≡ get_or places j None =
        get_or-set_other places k j (Some place) None (λ same. elim apart [ inl h ↦ omega (arith, h, same) | inr h ↦ omega (arith, h, same) ]) in
        subst (IsPlaceOf (earlier ++ (edit ∷ [])) (get_or names j d)) (sym stays)
        (kept_place earlier edit (get_or names j d) (get_or places j None) other (are.each j d within))

-- ---- the place at a name
pub inside_places : (names : List RecName) (places : List (Option ℕ)) (k : ℕ) (name : RecName) → length places ≡ length names
    → slice_get names k ≡ Some name → k < length places
inside_places names places k name many named = let inside = slice_get_within names k name named in omega (arith, many, inside)

pub place_there : (names : List RecName) (places : List (Option ℕ)) (edits : List Edit) (name : RecName) (k : ℕ) (place : Option ℕ)
    → ArePlaces edits names places → slice_get names k ≡ Some name → place ≡ get_or places k place
    → IsPlaceOf edits name place
place_there names places edits name k place are named is =
    let held : get_or places k None ≡ place = get_or_from_slice_get places k place None
    (slice_get_read places (length places) k place refl (inside_places names places k name are.as_many named) is) in
    subst (IsPlaceOf edits name) held
    (subst (λ n. IsPlaceOf edits n (get_or places k None)) (get_or_from_slice_get names k name name named)
    (are.each k name (slice_get_within names k name named)))

pub none_held : (names : List RecName) (places : List (Option ℕ)) (k : ℕ) (name : RecName) (place : Option ℕ) → length places ≡ length names
    → slice_get names k ≡ Some name → place ≡ get_or places k place → is_some place ≡ false
    → get_or places k None ≡ None
none_held names places k name place many named is free =
    get_or_from_slice_get places k place None (slice_get_read places (length places) k place refl
    (inside_places names places k name many named) is) ∙ none_if place free
  where
    none_if : (p : Option ℕ) → is_some p ≡ false → p ≡ None
    none_if None h = refl
    none_if (Some n) h = absurd cc

-- the edit that a look-up at a place gives
pub edit_got : (edits : List Edit) (place : ℕ) (found : Option (Bor Edit)) → is_some found ≡ nat_lt place (length edits)
    → IfSome found (λ edit. edit.now ≡ get_or edits place edit.now) → option_copied found ≡ slice_get edits place
edit_got edits place None there is = sym (slice_get_past edits place (ltb-false place (length edits) (sym there)))
edit_got edits place (Some edit) there is = ap Some is ∙ sym (slice_get-get_or edits place edit.now (ltb-true place (length edits) (sym there)))
