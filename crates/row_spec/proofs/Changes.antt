-- What a change of the rows leaves at each key, and how many rows it leaves.
use Rattle.std.proofs.Common.{◌≡◌, ℕ, zero, suc, ◌+◌, ◌<◌, List, [], ◌∷◌, length, Some, None, is_some, refl, sym, ap, subst, ◌∙◌, arith, Ordering, Less}
use Rattle.std.proofs.Common.{Equal, Greater, is_eq, is_lt, Bool, true, false, cond, true≢false, slice_get}
use Rattle.std.specs.Cmp.{IsTotalOrder, tied_itself, alike_right, Equal-is}
use Rattle.std.specs.Ordering.{match_ordering}
use Rattle.std.specs.List.{AllByRecursion}
use Rattle.std.specs.Map.{keys_of}
use Rattle.std.proofs.lemmas.Map.Keys.{sorted_head, sorted_tail}
use Rattle.row_spec.specs.Rows.{IsAscending, value_of, with_row, without_key, lower_bound}
use Rattle.row_spec.proofs.Place.{less_from_test, value_of-above, above_tied, above_greater}

-- two tests of which at most one holds, in either order
cond_swap : {A : Type 0} (a b : Bool) (x y z : A) → (a ≡ true → b ≡ false) → cond b y (cond a x z) ≡ cond a x (cond b y z)
cond_swap true true x y z apart = absurd (true≢false (apart refl))
cond_swap true false x y z apart = refl
cond_swap false b x y z apart = refl

-- a test that is made twice
cond_twice : {A : Type 0} (a : Bool) (x y z : A) → cond a x (cond a y z) ≡ cond a x z
cond_twice true x y z = refl
cond_twice false x y z = refl

cond_both : {A : Type 0} (a : Bool) (x : A) → cond a x x ≡ x
cond_both true x = refl
cond_both false x = refl

module _ {K : Type 0} {cmp : K → K → Ordering} (total : IsTotalOrder cmp) where
  -- a key that ties with one of two that differ does not tie with the other
  apart_from_tied : (x key asked : K) → is_eq (cmp x key) ≡ false → is_eq (cmp key asked) ≡ true → is_eq (cmp x asked) ≡ false
  apart_from_tied x key asked apart tied = ap is_eq (sym (alike_right total key asked x ((Equal-is (cmp key asked)).0 tied))) ∙ apart

  -- keys that tie give the same test
  same_test : (x key asked : K) → cmp x key ≡ Equal → is_eq (cmp x asked) ≡ is_eq (cmp key asked)
  same_test x key asked same = ap is_eq (total.congr x key asked same)

  -- of two ascending keys the first is below what the second is below
  below_too : (first second key : K) → cmp first second ≡ Less → is_lt (cmp second key) ≡ true → is_lt (cmp first key) ≡ true
  below_too first second key less below = ap is_lt (total.trans first second key less (less_from_test (cmp second key) below))

module _ {K V : Type 0} (cmp : K → K → Ordering) (total : IsTotalOrder cmp) where
  pub value_of-with_row : (rows : List (K × V)) (key asked : K) (value : V) → value_of cmp (with_row cmp rows key value) asked ≡
      cond (is_eq (cmp key asked)) (Some value) (value_of cmp rows asked)
  value_of-with_row [] key asked value = refl
  value_of-with_row (row ∷ rows) key asked value =
      elim (cmp row.0 key) as (λ answer. cmp row.0 key ≡ answer
      → value_of cmp (match_ordering answer (row ∷ with_row cmp rows key value) ((key, value) ∷ rows) ((key, value) ∷ row ∷ rows)) asked ≡
      cond (is_eq (cmp key asked)) (Some value) (value_of cmp (row ∷ rows) asked)) [
        | Less ↦ λ is. ap (λ rest. cond (is_eq (cmp row.0 asked)) (Some row.1) rest) (value_of-with_row rows key asked value)
            ∙ cond_swap (is_eq (cmp key asked)) (is_eq (cmp row.0 asked)) (Some value) (Some row.1) (value_of cmp rows asked)
            (apart_from_tied total row.0 key asked (ap is_eq is))
        | Equal ↦ λ is. rw (same_test total row.0 key asked is) (sym (cond_twice (is_eq (cmp key asked)) (Some value) (Some row.1) (value_of cmp rows asked)))
        | Greater ↦ λ is. refl
      ] refl

  pub value_of-without_key : (rows : List (K × V)) (key asked : K) → IsAscending cmp rows
      → value_of cmp (without_key cmp rows key) asked ≡ cond (is_eq (cmp key asked)) None (value_of cmp rows asked)
  value_of-without_key [] key asked ascending = sym (cond_both (is_eq (cmp key asked)) None)
  value_of-without_key (row ∷ rows) key asked ascending =
      let tail = sorted_tail cmp row.0 (keys_of rows) ascending in
      elim (is_eq (cmp row.0 key)) as (λ same. is_eq (cmp row.0 key) ≡ same
      → value_of cmp (cond same rows (row ∷ without_key cmp rows key)) asked ≡ cond (is_eq (cmp key asked)) None
      (value_of cmp (row ∷ rows) asked)) [
        | true ↦ λ is. rw (same_test total row.0 key asked ((Equal-is (cmp row.0 key)).0 is)) (
            elim (is_eq (cmp key asked)) as (λ tied. is_eq (cmp key asked) ≡ tied
            → value_of cmp rows asked ≡ cond tied None (cond tied (Some row.1) (value_of cmp rows asked))) [
              | true ↦ λ tied. value_of-above cmp rows asked
                  (above_tied cmp total row.0 asked rows (total.congr row.0 key asked ((Equal-is (cmp row.0 key)).0 is)
                  ∙ (Equal-is (cmp key asked)).0 tied) (sorted_head cmp row.0 (keys_of rows) ascending))
              | false ↦ λ tied. refl
            ] refl)
        | false ↦ λ is. ap (λ rest. cond (is_eq (cmp row.0 asked)) (Some row.1) rest) (value_of-without_key rows key asked tail)
            ∙ cond_swap (is_eq (cmp key asked)) (is_eq (cmp row.0 asked)) None (Some row.1) (value_of cmp rows asked)
            (apart_from_tied total row.0 key asked is)
      ] refl

  pub length-with_row : (rows : List (K × V)) (key : K) (value : V) → IsAscending cmp rows
      → length (with_row cmp rows key value) ≡ length rows + cond (is_some (value_of cmp rows key)) 0 1
  length-with_row [] key value ascending = omega arith
  length-with_row (row ∷ rows) key value ascending =
      let rest = length-with_row rows key value (sorted_tail cmp row.0 (keys_of rows) ascending) in
      elim (cmp row.0 key) as (λ answer. cmp row.0 key ≡ answer
      → length (match_ordering answer (row ∷ with_row cmp rows key value) ((key, value) ∷ rows) ((key, value) ∷ row ∷ rows)) ≡
      suc (length rows) + cond (is_some (cond (is_eq answer) (Some row.1) (value_of cmp rows key))) 0 1) [
        | Less ↦ λ is. omega (arith, rest)
        | Equal ↦ λ is. omega arith
        | Greater ↦ λ is. rw (value_of-above cmp rows key (above_greater cmp total row.0 key rows is
            (sorted_head cmp row.0 (keys_of rows) ascending))) (omega arith)
      ] refl

  pub length-without_key : (rows : List (K × V)) (key : K) → length (without_key cmp rows key) + cond (is_some (value_of cmp rows key)) 1 0 ≡ length rows
  length-without_key [] key = omega arith
  length-without_key (row ∷ rows) key =
      let rest = length-without_key rows key in
      elim (is_eq (cmp row.0 key)) as (λ same. length (cond same rows (row ∷ without_key cmp rows key)) + cond
      (is_some (cond same (Some row.1) (value_of cmp rows key))) 1 0 ≡ suc (length rows)) [
        | true ↦ omega arith
        | false ↦ omega (arith, rest)
      ]

  -- what holds of each key holds of the key of the row at a place
  key_among : (P : K → Type 0) (rows : List (K × V)) (place : ℕ) (row : K × V) → slice_get rows place ≡ Some row → AllByRecursion P (keys_of rows) → P row.0
  key_among P [] place row here all = cc
  key_among P (first ∷ rows) zero row here all = let same : first ≡ row = cc in subst (λ r. P r.0) same all.0
  key_among P (first ∷ rows) (suc place) row here all = key_among P rows place row here all.1

  pub value_of_row : (rows : List (K × V)) (place : ℕ) (row : K × V) → IsAscending cmp rows → slice_get rows place ≡ Some row
      → value_of cmp rows row.0 ≡ Some row.1
  value_of_row [] place row ascending here = cc
  value_of_row (first ∷ rows) zero row ascending here = let same : first ≡ row = cc in
      subst (λ r. value_of cmp (first ∷ rows) r.0 ≡ Some r.1) same (rw (tied_itself total first.0) refl)
  value_of_row (first ∷ rows) (suc place) row ascending here =
      rw (key_among (λ k. cmp first.0 k ≡ Less) rows place row here (sorted_head cmp first.0 (keys_of rows) ascending))
      (value_of_row rows place row (sorted_tail cmp first.0 (keys_of rows) ascending) here)

  pub below_lower_bound : (rows : List (K × V)) (place : ℕ) (row : K × V) (key : K) → IsAscending cmp rows → slice_get rows place ≡ Some row
      → is_lt (cmp row.0 key) ≡ true → place < lower_bound cmp rows key
  below_lower_bound [] place row key ascending here below = cc
  below_lower_bound (first ∷ rows) zero row key ascending here below = let same : row ≡ first = cc in
      let first_below : is_lt (cmp first.0 key) ≡ true = subst (λ r. is_lt (cmp r.0 key) ≡ true) same below in rw first_below (omega arith)
  below_lower_bound (first ∷ rows) (suc place) row key ascending here below =
      let rest = below_lower_bound rows place row key (sorted_tail cmp first.0 (keys_of rows) ascending) here below in
      let less : cmp first.0 row.0 ≡ Less = key_among (λ k. cmp first.0 k ≡ Less) rows place row here (sorted_head cmp first.0 (keys_of rows) ascending) in
      rw (below_too total first.0 row.0 key less below) (omega (arith, rest))

  pub from_below_lower_bound : (rows : List (K × V)) (place : ℕ) (row : K × V) (key : K) → slice_get rows place ≡ Some row
      → place < lower_bound cmp rows key → is_lt (cmp row.0 key) ≡ true
  from_below_lower_bound [] place row key here lt = cc
  from_below_lower_bound (first ∷ rows) zero row key here lt =
      let same : first ≡ row = cc in
      elim (is_lt (cmp first.0 key)) as (λ below. is_lt (cmp first.0 key) ≡ below → 0 < cond below (1 + lower_bound cmp rows key) 0
      → is_lt (cmp row.0 key) ≡ true) [
        | true ↦ λ is under. subst (λ r. is_lt (cmp r.0 key) ≡ true) same is
        | false ↦ λ is under. absurd (omega arith)
      ] refl lt
  from_below_lower_bound (first ∷ rows) (suc place) row key here lt =
      elim (is_lt (cmp first.0 key)) as (λ below. suc place < cond below (1 + lower_bound cmp rows key) 0 → is_lt (cmp row.0 key) ≡ true) [
        | true ↦ λ under. from_below_lower_bound rows place row key here (omega arith)
        | false ↦ λ under. absurd (omega arith)
      ] lt
