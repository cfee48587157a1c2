-- Lists whose items ascend by a number, and findings of one kind that ascend by their first numbers.
use Rattle.std.proofs.Common.{◌≡◌, ◌≤◌, ◌<◌, ℕ, zero, suc, ◌+◌, Bool, true, false, List, [], ◌∷◌, Option, None, Some, cond, map, filter, take, drop, refl}
use Rattle.std.proofs.Common.{sym, ap, ◌∙◌, arith}
use Rattle.std.specs.Cmp.{nat_cmp_is}
use Rattle.std.specs.Cmp.Lexicographic.{slice_cmp}
use Rattle.std.specs.List.{AllByRecursion, enumerate_from}
use Rattle.std.specs.List.Sorted.{IsStrictlySortedBy}
use Rattle.std.specs.Ordering.{nat_cmp, ordering_then}
use Rattle.std.specs.Prelude.{slice_index}
use Rattle.std.specs.declared.cmp.Ordering.{Ordering}
use Rattle.std.specs.declared.cmp.Ordering.TheVariants.{Less, Equal}
use Rattle.cell_spec.specs.Names.{finding_order}
use Rattle.rule_spec.specs.Findings.{finding}
use Rattle.rule_spec.specs.Rule.{Found, found_if, found_at, places_where}

-- the items' numbers ascend, none of them below a number
abbrev pub AscendFrom : {X : Type 0} → (X → ℕ) → ℕ → List X → Type 0
AscendFrom number least [] = Unit {0}
AscendFrom number least (x ∷ xs) = (least ≤ number x) × AscendFrom number (suc (number x)) xs

module _ {X : Type 0} (number : X → ℕ) where
  pub ascend_lower : (low least : ℕ) (xs : List X) → low ≤ least → AscendFrom number least xs → AscendFrom number low xs
  ascend_lower low least [] below ascent = tt
  ascend_lower low least (x ∷ xs) below ascent = (omega (arith, below, ascent.0), ascent.1)

  -- without its first item a list ascends from where it did
  ascend_behind : (least : ℕ) (x : X) (xs : List X) → AscendFrom number least (x ∷ xs) → AscendFrom number least xs
  ascend_behind least x xs ascent = ascend_lower least (suc (number x)) xs (omega (arith, ascent.0)) ascent.1

  pub ascend_dropped : (n least : ℕ) (xs : List X) → AscendFrom number least xs → AscendFrom number least (drop n xs)
  ascend_dropped zero least xs ascent = ascent
  ascend_dropped (suc n) least [] ascent = tt
  ascend_dropped (suc n) least (x ∷ xs) ascent = ascend_dropped n least xs (ascend_behind least x xs ascent)

  kept_by : (test : Bool) (least : ℕ) (x : X) (xs : List X) → least ≤ number x → AscendFrom number (suc (number x)) xs
      → AscendFrom number least (cond test (x ∷ xs) xs)
  kept_by true least x xs here behind = (here, behind)
  kept_by false least x xs here behind = ascend_behind least x xs (here, behind)

  pub ascend_filtered : (test : X → Bool) (least : ℕ) (xs : List X) → AscendFrom number least xs → AscendFrom number least (filter test xs)
  ascend_filtered test least [] ascent = tt
  ascend_filtered test least (x ∷ xs) ascent = kept_by (test x) least x (filter test xs) ascent.0 (ascend_filtered test (suc (number x)) xs ascent.1)

pub ascend_mapped : {X Y : Type 0} (number : Y → ℕ) (f : X → Y) (least : ℕ) (xs : List X) → AscendFrom (λ x. number (f x)) least xs
    → AscendFrom number least (map f xs)
ascend_mapped number f least [] ascent = tt
ascend_mapped number f least (x ∷ xs) ascent = (ascent.0, ascend_mapped number f (suc (number (f x))) xs ascent.1)

pub ascend_numbered : {X : Type 0} (first : ℕ) (xs : List X) → AscendFrom (λ (item : ℕ × X). item.0) first (enumerate_from first xs)
ascend_numbered first [] = tt
ascend_numbered first (x ∷ xs) =
    (omega arith, ascend_lower (λ item. item.0) (suc first) (first + 1) (enumerate_from (first + 1) xs) (omega arith) (ascend_numbered (first + 1) xs))

-- the findings with these numbers ascend, of whatever kind
abbrev pub Ascends : Found → Type 0
Ascends found = (kind : ℕ) → IsStrictlySortedBy finding_order (map (finding kind) found)

abbrev first_number : List ℕ → ℕ
first_number nums = slice_index nums 0

-- findings of one kind go by their first numbers
by_first_number : (kind : ℕ) (a b : List ℕ) → first_number a < first_number b → finding_order (finding kind a) (finding kind b) ≡ Less
by_first_number kind a b below =
    let others = λ (o : Ordering). ordering_then o (slice_cmp nat_cmp (slice_index a 1 ∷ slice_index a 2 ∷ slice_index a 3 ∷ [])
    (slice_index b 1 ∷ slice_index b 2 ∷ slice_index b 3 ∷ [])) in
    ap (λ o. ordering_then o (others (nat_cmp (first_number a) (first_number b)))) (sym (nat_cmp_is kind kind Equal refl))
    ∙ ap others (sym (nat_cmp_is (first_number a) (first_number b) Less below))

all_behind : (kind : ℕ) (nums : List ℕ) (least : ℕ) (found : Found) → first_number nums < least → AscendFrom first_number least found
    → AllByRecursion (λ other. finding_order (finding kind nums) other ≡ Less) (map (finding kind) found)
all_behind kind nums least [] below ascent = tt
all_behind kind nums least (more ∷ found) below ascent = (
  by_first_number kind nums more (omega (arith, below, ascent.0)),
  all_behind kind nums (suc (first_number more)) found
      (omega (arith, below, ascent.0)) ascent.1,
)

-- findings whose first numbers ascend do
pub ascends : (least : ℕ) (found : Found) → AscendFrom first_number least found → Ascends found
unfolding IsStrictlySortedBy
ascends least [] ascent kind = tt
ascends least (nums ∷ found) ascent kind = (
  all_behind kind nums (suc (first_number nums)) found (omega arith) ascent.1,
  ascends (suc (first_number nums)) found ascent.1 kind,
)

-- none, and one
pub none_ascends : Ascends []
unfolding IsStrictlySortedBy
none_ascends kind = tt

pub one_ascends : (nums : List ℕ) → Ascends (nums ∷ [])
unfolding IsStrictlySortedBy
one_ascends nums kind = (tt, tt)

-- findings where a test holds
pub when_ascends : (test : Bool) (found : Found) → Ascends found → Ascends (cond test found [])
when_ascends true found ascent = ascent
when_ascends false found ascent = none_ascends

pub unless_ascends : (test : Bool) (found : Found) → Ascends found → Ascends (cond test [] found)
unless_ascends true found ascent = none_ascends
unless_ascends false found ascent = ascent

pub if_ascends : (test : Bool) (nums : List ℕ) → Ascends (found_if test nums)
if_ascends test nums = when_ascends test (nums ∷ []) (one_ascends nums)

-- and those where another does too
pub when_if_ascends : (outer inner : Bool) (nums : List ℕ) → Ascends (cond outer (found_if inner nums) [])
when_if_ascends outer inner nums = when_ascends outer (found_if inner nums) (if_ascends inner nums)

pub at_ascends : (number : Option ℕ) → Ascends (found_at number)
at_ascends None = none_ascends
at_ascends (Some k) = one_ascends (k ∷ [])

-- the first one alone
pub first_ascends : (found : Found) → Ascends (take 1 found)
first_ascends [] = none_ascends
first_ascends (nums ∷ found) = one_ascends nums

pub places_ascend : {X : Type 0} (test : X → Bool) (xs : List X) → Ascends (places_where test xs)
places_ascend {X} test xs =
    let place = λ (item : ℕ × X). item.0 ∷ [] in
    let found = filter (λ (item : ℕ × X). test item.1) (enumerate_from 1 xs) in
    ascends 1 (map place found) (ascend_mapped first_number place 1 found
    (ascend_filtered (λ item. item.0) (λ item. test item.1) 1 (enumerate_from 1 xs) (ascend_numbered 1 xs)))
