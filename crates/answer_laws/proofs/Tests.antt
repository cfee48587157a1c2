-- Tests of the items of lists.
use Rattle.std.proofs.Common.{◌≡◌, ◌||◌, ◌&&◌, Bool, true, false, List, [], ◌∷◌, refl, ap, ◌∙◌}
use Rattle.std.specs.Prelude.{flat_map}
use Rattle.std.specs.List.{list_any}
use Rattle.std.proofs.lemmas.List.Folds.{list_any-append}

-- tests that agree at each item
pub any_same : {X : Type 0} (p q : X → Bool) → ((x : X) → p x ≡ q x) → (xs : List X) → list_any p xs ≡ list_any q xs
any_same p q same [] = refl
any_same p q same (x ∷ xs) = λ i. same x i || any_same p q same xs i

pub any_flat : {X Y : Type 0} (p : Y → Bool) (f : X → List Y) (xs : List X) → list_any p (flat_map f xs) ≡ list_any (λ x. list_any p (f x)) xs
any_flat p f [] = refl
any_flat p f (x ∷ xs) = list_any-append p (f x) (flat_map f xs) ∙ ap (λ b. list_any p (f x) || b) (any_flat p f xs)

both_when : (u v b : Bool) → (b ≡ true → u ≡ v) → (u && b) ≡ (v && b)
both_when u v true h = ap (λ t. t && true) (h refl)
both_when true true false h = refl
both_when true false false h = refl
both_when false true false h = refl
both_when false false false h = refl

any_with : {X : Type 0} (b : Bool) (p : X → Bool) (xs : List X) → list_any (λ x. b && p x) xs ≡ (b && list_any p xs)
any_with true p xs = refl
any_with false p [] = refl
any_with false p (x ∷ xs) = any_with false p xs

-- a test that gives one answer for each item that passes another
pub any_when : {X : Type 0} (u : X → Bool) (v : Bool) (p : X → Bool) → ((x : X) → p x ≡ true → u x ≡ v) → (xs : List X)
    → list_any (λ x. u x && p x) xs ≡ (v && list_any p xs)
any_when u v p same xs = any_same (λ x. u x && p x) (λ x. v && p x) (λ x. both_when (u x) v (p x) (same x)) xs ∙ any_with v p xs
