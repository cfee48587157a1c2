-- Where keys that are compared from the front end.
use Rattle.std.proofs.Common.{◌≡◌, ℕ, zero, suc, ◌<◌, List, [], ◌∷◌, length, get_or, take, drop, sym, ap, subst, ◌∙◌, arith, Ordering, Less, Equal, Greater}
use Rattle.std.proofs.Common.{refl, true, is_eq, true≢false}
use Rattle.std.specs.Cmp.{IsTotalOrder}
use Rattle.std.specs.List.{AllByRecursion, HoldsAt}
use Rattle.std.specs.Map.{keys_of}
use Rattle.std.proofs.lemmas.Map.Keys.{sorted_head, sorted_tail}
use Rattle.std.proofs.lemmas.List.{get_or_default}
use Rattle.row_spec.specs.Rows.{IsAscending, EachKeyIs, IsRowAt, IsGapAt}
use Rattle.row_spec.proofs.Place.{above_greater, row_at_from_same}

-- what holds of each element before a place, and of the one there
pub each_next : {X : Type 0} (P : X → Type 0) (xs : List X) (i : ℕ) (x : X) → i < length xs → x ≡ get_or xs i x → P x
    → AllByRecursion P (take i xs) → AllByRecursion P (take (suc i) xs)
each_next P [] i x lt is here before = absurd (omega arith)
each_next P (y ∷ ys) zero x lt is here before = (subst P is here, tt)
each_next P (y ∷ ys) (suc i) x lt is here before = (before.0, each_next P ys i x (omega arith) is here before.1)

pub tied : (answer : Ordering) → is_eq answer ≡ true → answer ≡ Equal
tied Less is = absurd (true≢false (sym is))
tied Equal is = refl
tied Greater is = absurd (true≢false (sym is))

pub holds_there : {X : Type 0} (P : X → Type 0) (xs : List X) (i : ℕ) (x : X) → i < length xs → x ≡ get_or xs i x → P x → HoldsAt P xs i
holds_there P xs i x lt is here d = subst P (is ∙ get_or_default xs i x d lt) here

module _ {K V : Type 0} (cmp : K → K → Ordering) (total : IsTotalOrder cmp) (key : K) where
  -- the first row with the key
  pub row_counted : (rows : List (K × V)) (i : ℕ) (row : K × V) → IsAscending cmp rows → i < length rows → row ≡ get_or rows i row
      → cmp row.0 key ≡ Equal → IsRowAt cmp rows key i
  row_counted rows i row ascending lt is same = row_at_from_same cmp total rows key i ascending lt
      (holds_there (λ r. cmp r.0 key ≡ Equal) rows i row lt is same)

  -- the keys from one that is above the key on
  above_from : (rows : List (K × V)) (i : ℕ) (row : K × V) → IsAscending cmp rows → i < length rows → row ≡ get_or rows i row
      → cmp row.0 key ≡ Greater → EachKeyIs cmp Greater key (drop i rows)
  above_from [] i row ascending lt is greater = absurd (omega arith)
  above_from (first ∷ rows) zero row ascending lt is greater =
      let first_greater = ap (λ (r : K × V). cmp r.0 key) (sym is) ∙ greater in
      (first_greater, above_greater cmp total first.0 key rows first_greater (sorted_head cmp first.0 (keys_of rows) ascending))
  above_from (first ∷ rows) (suc i) row ascending lt is greater =
      above_from rows i row (sorted_tail cmp first.0 (keys_of rows) ascending) (omega arith) is greater

  -- the first row with a greater key, behind rows with lesser ones
  pub gap_counted : (rows : List (K × V)) (i : ℕ) (row : K × V) → IsAscending cmp rows → i < length rows → row ≡ get_or rows i row
      → cmp row.0 key ≡ Greater → EachKeyIs cmp Less key (take i rows) → IsGapAt cmp rows key i
  gap_counted rows i row ascending lt is greater below = record {
    in_range = omega (arith, lt);
    below = below;
    above =
        above_from rows i row ascending lt is greater;
  }
