-- Tests that fail.
use Rattle.std.proofs.Common.{◌≡◌, ◌||◌, Bool, true, false, List, [], ◌∷◌, refl, ap, ◌∙◌}
use Rattle.std.specs.List.{list_any}
use Rattle.std.proofs.lemmas.Bool.{or_parts}

-- of two tests of which none is passed, the first and the second
pub first_fails : (a b : Bool) → (a || b) ≡ false → a ≡ false
first_fails a b e = (or_parts a b e).0

pub second_fails : (a b : Bool) → (a || b) ≡ false → b ≡ false
second_fails a b e = (or_parts a b e).1

spread : (a b c d : Bool) → ((a || b) || (c || d)) ≡ ((a || c) || (b || d))
spread true b c d = refl
spread false true true d = refl
spread false true false d = refl
spread false false c d = refl

-- either of two tests, over the items of a list
pub any_either : {X : Type 0} (p q : X → Bool) (xs : List X) → list_any (λ x. p x || q x) xs ≡ (list_any p xs || list_any q xs)
any_either p q [] = refl
any_either p q (x ∷ xs) = ap (λ b. (p x || q x) || b) (any_either p q xs) ∙ spread (p x) (q x) (list_any p xs) (list_any q xs)
