-- What is found first among lists one after the other.
use Rattle.std.proofs.Common.{◌≡◌, ℕ, ◌+◌, ◌<◌, Bool, List, ◌++◌, length, get_or, drop, map, find, None, Some, refl, ap, ◌∙◌}
use Rattle.std.proofs.lemmas.List.{drop_more}
use Rattle.std.proofs.lemmas.List.Folds.{find-append}
use Rattle.rule_spec.specs.Vectors.{each_with_each}

-- what the first list has is found, and where it has nothing the second decides
pub find_hit : {X : Type 0} (p : X → Bool) (xs ys : List X) (x : X) → find p xs ≡ Some x → find p (xs ++ ys) ≡ Some x
find_hit p xs ys x h = rw (find-append p xs ys) (rw h refl)

pub find_missed : {X : Type 0} (p : X → Bool) (xs ys : List X) → find p xs ≡ None → find p (xs ++ ys) ≡ find p ys
find_missed p xs ys h = rw (find-append p xs ys) (rw h refl)

-- a pair found in the row of one item is the first of all rows from there on, and where the row has none the next rows decide
pub row_hit : {X Y : Type 0} (p : X × Y → Bool) (xs : List X) (ys : List Y) (i : ℕ) (d : X) (found : X × Y) →
    i < length xs → find p (map (λ y. (get_or xs i d, y)) ys) ≡ Some found → find p (each_with_each (drop i xs) ys) ≡ Some found
row_hit p xs ys i d found h f =
    ap (λ l. find p (each_with_each l ys)) (drop_more xs i d h) ∙ find_hit p (map (λ y. (get_or xs i d, y)) ys) (each_with_each (drop (i + 1) xs) ys) found f

pub row_missed : {X Y : Type 0} (p : X × Y → Bool) (xs : List X) (ys : List Y) (i : ℕ) (d : X) →
    i < length xs → find p (map (λ y. (get_or xs i d, y)) ys) ≡ None → find p (each_with_each (drop i xs) ys) ≡ find p (each_with_each (drop (i + 1) xs) ys)
row_missed p xs ys i d h f =
    ap (λ l. find p (each_with_each l ys)) (drop_more xs i d h) ∙ find_missed p (map (λ y. (get_or xs i d, y)) ys) (each_with_each (drop (i + 1) xs) ys) f
