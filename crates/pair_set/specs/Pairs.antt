-- Pairs in ascending order, by their firsts, then by their seconds. This project's own rules.
use Rattle.std.specs.Prelude.{◌&&◌, Bool, not, List, map}
use Rattle.std.specs.List.{list_any, take_while}
use Rattle.std.specs.Option.{is_some}
use Rattle.std.specs.declared.cmp.Ordering.{Ordering}
use Rattle.std.specs.Ordering.{is_eq, ordering_then}
use Rattle.row_spec.specs.Rows.{value_of}

-- whether an item is among some
abbrev pub is_among : {X : Type 0} → (X → X → Ordering) → List X → X → Bool
is_among order xs x = list_any (λ y. is_eq (order x y)) xs

-- whether an item is among the old ones and not among the new ones
abbrev pub is_lost : {X : Type 0} → (X → X → Ordering) → List X → List X → X → Bool
is_lost order old new x = is_among order old x && not (is_among order new x)

module _ {A B : Type 0} (firsts : A → A → Ordering) (seconds : B → B → Ordering) where
  -- by first, then by second: the seconds of one first stand together, ascending
  abbrev pub pair_order : A × B → A × B → Ordering
  pair_order p q = ordering_then (firsts p.0 q.0) (seconds p.1 q.1)

  -- whether two pairs are one
  abbrev pub same_pair : A → B → A → B → Bool
  same_pair a b c d = is_eq (firsts a c) && is_eq (seconds b d)

  -- whether a first stands among the pairs with a second
  abbrev pub has_pair : {V : Type 0} → List ((A × B) × V) → A → B → Bool
  has_pair pairs a b = is_some (value_of pair_order pairs (a, b))

-- the seconds of the first pairs, as far as these have the first
abbrev pub seconds_under : {A B V : Type 0} → (A → A → Ordering) → A → List ((A × B) × V) → List B
seconds_under {A} {B} {V} firsts a pairs =
    map (λ (pair : (A × B) × V). pair.0.1) (take_while (λ (pair : (A × B) × V). is_eq (firsts pair.0.0 a)) pairs)
