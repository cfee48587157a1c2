-- How often each session stands in an order.
use Rattle.std.specs.Prelude.{◌≡◌, ℕ, ◌<◌, ◌+◌, ◌==◌, List, count_by, length, slice_index}
use Rattle.text_spec.specs.OrderLine.{first_bad_item, order_of, session_of}
use Rattle.std.specs.Prelude.{Err, Some, None, filter_map}
use Rattle.order_text.specs.declared.order.OrderRefusal.{OrderRefusal}
use Rattle.order_text.specs.declared.order.OrderRefusal.TheVariants.{BadPlace, NoMemory}

-- the numbers beside each session are how often it stands there
abbrev pub AreCounts : List ℕ → List ℕ → Type 0
AreCounts order used = (i : ℕ) → i < length used → slice_index used i ≡ count_by (λ other. other == i + 1) order

-- a refusal tells the first bad item, or means out of memory
abbrev pub IsItemRefusal : List ℕ → List (List ℕ) → OrderRefusal → Type 0
IsItemRefusal quotas words (BadPlace place) = first_bad_item quotas words ≡ Some place
IsItemRefusal quotas words NoMemory = Unit {0}

-- the sessions that words name, with the counts of each, where no word is bad
pub record AreTaken (quotas : List ℕ) (words : List (List ℕ)) (order used : List ℕ) : Type 0 where
  pub none_bad : first_bad_item quotas words ≡ None
  pub named : order ≡ filter_map (session_of quotas) words
  pub counts : AreCounts order used
  pub as_many : length used ≡ length quotas

-- a refusal tells the first bad place, or means out of memory
abbrev pub IsOrderRefusal : List ℕ → List ℕ → OrderRefusal → Type 0
IsOrderRefusal quotas text (BadPlace place) = order_of quotas text ≡ Err place
IsOrderRefusal quotas text NoMemory = Unit {0}
