-- What is found for each of some items, one item more.
use Rattle.std.proofs.Common.{◌≡◌, ℕ, ◌+◌, ◌<◌, List, [], ◌∷◌, ◌++◌, Option, None, Some, get_or, length, take, refl, ap, ◌∙◌}
use Rattle.std.specs.Prelude.{filter_map, option_to_list}
use Rattle.std.specs.List.{cons_option}
use Rattle.std.proofs.lemmas.List.{take_more}
use Rattle.std.proofs.lemmas.List.Elements.{filter_map-append}

one_found : {Y : Type 0} (o : Option Y) → cons_option o [] ≡ option_to_list o
one_found None = refl
one_found (Some y) = refl

pub found_more : {X Y : Type 0} (h : X → Option Y) (xs : List X) (i : ℕ) (d : X) → i < length xs
    → filter_map h (take (i + 1) xs) ≡ filter_map h (take i xs) ++ option_to_list (h (get_or xs i d))
found_more h xs i d within =
    ap (filter_map h) (take_more xs i d within) ∙ filter_map-append h (take i xs) (get_or xs i d ∷ [])
    ∙ ap (λ l. filter_map h (take i xs) ++ l) (one_found (h (get_or xs i d)))
