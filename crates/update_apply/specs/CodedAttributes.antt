-- Attributes that are found by their codes: each stands in a place of its own, and a place may be empty.
use Rattle.std.specs.Prelude.{◌≡◌, ◌<◌, ◌≤◌, ◌==◌, ℕ, Bool, true, false, List, flat_map, option_to_list, slice_index_or, Option, Some, None}
use Rattle.std.specs.Ordering.{nat_cmp, ordering_then}
use Rattle.std.specs.declared.cmp.Ordering.{Ordering}
use Rattle.std.specs.BTreeSet.{BTreeSet, contains}
use Rattle.s57_types.specs.declared.record.Attr.{Attr}
use Rattle.update_apply.specs.declared.coded.CodedAttrs.{CodedAttrs}

abbrev pub present : List (Option Attr) → List Attr
present slots = flat_map option_to_list slots

abbrev pub has_code : ℕ → Option Attr → Bool
has_code code None = false
has_code code (Some attr) = attr.code == code

-- whether an attribute of a code stands at a place
abbrev pub stands_at : ℕ → ℕ → List (Option Attr) → Bool
stands_at code k slots = has_code code (slice_index_or slots k None)

-- by code, and by place where the code is the same
abbrev pub place_order : ℕ × ℕ → ℕ × ℕ → Ordering
place_order a b = ordering_then (nat_cmp a.0 b.0) (nat_cmp a.1 b.1)

-- the code and the place of each attribute
abbrev pub AreIndexed : CodedAttrs → Type 0
AreIndexed coded = (code k : ℕ) → contains place_order coded.places (code, k) ≡ stands_at code k coded.slots.items

-- the least code and place that is there from the beginning of a code on
abbrev pub IsNext : BTreeSet (ℕ × ℕ) → ℕ → Option (ℕ × ℕ) → Type 0
IsNext places code None = (k : ℕ) → contains place_order places (code, k) ≡ false
IsNext places code (Some found) = (contains place_order places found ≡ true) × (code ≤ found.0)
    × ((k : ℕ) → contains place_order places (code, k) ≡ true → (found.0 ≤ code) × (found.0 ≡ code → found.1 ≤ k))

-- the place of the first attribute of a code
abbrev pub IsFirst : ℕ → List (Option Attr) → Option ℕ → Type 0
IsFirst code slots None = (k : ℕ) → stands_at code k slots ≡ false
IsFirst code slots (Some k) = (stands_at code k slots ≡ true) × ((j : ℕ) → j < k → stands_at code j slots ≡ false)
