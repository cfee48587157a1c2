-- Lists that are compared item for item.
use Rattle.std.proofs.Common.{◌≡◌, ℕ, suc, ◌+◌, ◌<◌, ◌≤◌, Bool, true, false, ◌&&◌, List, [], ◌∷◌, drop, get_or, length, refl, sym, ap, ◌∙◌}
use Rattle.std.specs.Cmp.Lexicographic.{pointwise}
use Rattle.std.proofs.lemmas.Bool.{and_right}
use Rattle.std.proofs.lemmas.List.{drop_all, drop_more}

pub lengths_differ : {X : Type 0} (same : X → X → Bool) (xs ys : List X) → (length xs ≡ length ys → ⊥) → pointwise same xs ys ≡ false
lengths_differ same [] [] differ = absurd (differ refl)
lengths_differ same [] (y ∷ ys) differ = refl
lengths_differ same (x ∷ xs) [] differ = refl
lengths_differ same (x ∷ xs) (y ∷ ys) differ = and_right (same x y) (pointwise same xs ys) (lengths_differ same xs ys (λ e. differ (ap suc e)))

pub compared_more : {X : Type 0} (same : X → X → Bool) (xs ys : List X) (i : ℕ) (x y : X) → i < length xs → i < length ys → x ≡ get_or xs i x
    → y ≡ get_or ys i y
    → pointwise same (drop i xs) (drop i ys) ≡ (same x y && pointwise same (drop (i + 1) xs) (drop (i + 1) ys))
compared_more same xs ys i x y within there x_is y_is =
    (λ j. pointwise same (drop_more xs i x within j) (drop_more ys i y there j))
    ∙ (λ j. same (sym x_is j) (sym y_is j) && pointwise same (drop (i + 1) xs) (drop (i + 1) ys))

pub compared_all : {X : Type 0} (same : X → X → Bool) (xs ys : List X) (i : ℕ) → length xs ≤ i → length ys ≤ i → pointwise same (drop i xs) (drop i ys) ≡ true
compared_all same xs ys i past there = λ j. pointwise same (drop_all i xs past j) (drop_all i ys there j)
