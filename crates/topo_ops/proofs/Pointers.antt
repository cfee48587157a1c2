-- The pointers of a cell's records: no two are one, and a name without pointers is named by no record.
use Rattle.std.proofs.Common.{◌≡◌, inl, inr, ℕ, zero, suc, ◌+◌, ◌≤◌, Bool, true, false, ◌||◌, List, [], ◌∷◌, Some, cond, drop, filter, map, refl, sym, ap}
use Rattle.std.proofs.Common.{◌∙◌, arith}
use Rattle.std.specs.Prelude.{flat_map, slice_get}
use Rattle.std.specs.List.{AllByRecursion, IsDistinct, enumerate_from, list_any}
use Rattle.std.specs.Ordering.{is_eq}
use Rattle.std.specs.Cmp.{Equal-is}
use Rattle.std.proofs.lemmas.Bool.{both_ways as contradiction, false_from_ne_true, or_parts}
use Rattle.std.proofs.lemmas.List.{drop-drop}
use Rattle.s57_types.specs.declared.name.RecName.{RecName}
use Rattle.s57_types.specs.declared.record.End.{End}
use Rattle.s57_types.specs.declared.record.Vector.{Vector}
use Rattle.s57_types.specs.declared.record.Rec.{Rec}
use Rattle.s57_types.specs.declared.record.Rec.TheVariants.{V}
use Rattle.s57_types.specs.declared.cell.Cell.{Cell}
use Rattle.cell_spec.specs.declared.key.Ref.{Ref}
use Rattle.cell_spec.specs.Lookup.{all_records, lookup_pointers, name_of, pointers_at, pointers_in, targets_of}
use Rattle.cell_spec.specs.Names.{ref_order, same_name}
use Rattle.cell_spec.specs.Writable.{HaveDistinctNames}
use Rattle.cell_spec.proofs.Ascending.{any-ascending}
use Rattle.cell_spec.proofs.Orders.{exact_refs}
use Rattle.answer_laws.proofs.Among.{Among, among_append, any_passes, each_among, no_tie}
use Rattle.answer_laws.proofs.Distinct.{distinct_both}
use Rattle.answer_laws.proofs.Tests.{any_flat}
use Rattle.topo_ops.proofs.PlaceCounts.{same_self}

abbrev tie : Ref → Ref → Bool
tie a b = is_eq (ref_order a b)

apart : (a b : Ref) → (a ≡ b → ⊥) → tie a b ≡ false
apart a b differ = false_from_ne_true (tie a b) (λ same. differ (exact_refs a b ((Equal-is (ref_order a b)).0 same)))

-- a pointer is of a record, at a place from a number on
record StandsAt (from : RecName) (first : ℕ) (q : Ref) : Type 0 where
  from_is : q.from ≡ from
  behind : first ≤ q.place

abbrev pub pointer_at : RecName → ℕ × RecName → Ref
pointer_at from p = record { from = from; place = p.0 }

pub got : {X : Type 0} (xs : List X) (k : ℕ) → slice_get (drop k xs) 0 ≡ slice_get xs k
got [] zero = refl
got [] (suc k) = refl
got (x ∷ xs) zero = refl
got (x ∷ xs) (suc k) = got xs k

module _ (n : RecName) (r : Rec) where
  abbrev from_place : ℕ → List RecName → List Ref
  from_place k ts = pointers_at n r k ts

  -- the pointers from a place on, where the first target is the name or isn't
  abbrev pub with_first : Bool → ℕ → RecName → List RecName → List Ref
  with_first named k t ts = map (pointer_at (name_of r)) (cond named ((k, t) ∷ filter (λ (p : ℕ × RecName). same_name n p.1) (enumerate_from (k + 1) ts))
      (filter (λ (p : ℕ × RecName). same_name n p.1) (enumerate_from (k + 1) ts)))

  stands_by : (k : ℕ) (t : RecName) (ts : List RecName) (q : Ref) (named : Bool) → Among q (with_first named k t ts)
      → (Among q (from_place (k + 1) ts) → StandsAt (name_of r) (k + 1) q) → StandsAt (name_of r) k q
  stands_by k t ts q true (inl is) later = record { from_is = ap (λ (p : Ref). p.from) (sym is); behind = omega (arith, ap (λ (p : Ref). p.place) is) }
  stands_by k t ts q true (inr at) later = let there = later at in record { from_is = there.from_is; behind = omega (arith, there.behind) }
  stands_by k t ts q false at later = let there = later at in record { from_is = there.from_is; behind = omega (arith, there.behind) }

  stands : (k : ℕ) (ts : List RecName) (q : Ref) → Among q (from_place k ts) → StandsAt (name_of r) k q
  stands k [] q at = absurd at
  stands k (t ∷ ts) q at = stands_by k t ts q (same_name n t) at (stands (k + 1) ts q)

  distinct_by : (k : ℕ) (t : RecName) (ts : List RecName) (named : Bool) → IsDistinct tie (from_place (k + 1) ts) → IsDistinct tie (with_first named k t ts)
  unfolding IsDistinct
  distinct_by k t ts true rest = (
    each_among (λ q. tie (pointer_at (name_of r) (k, t)) q ≡ false) (from_place (k + 1) ts) (λ q at.
        let there = stands (k + 1) ts q at in
        apart (pointer_at (name_of r) (k, t)) q (λ same. absurd (omega (arith, ap (λ (p : Ref). p.place) same, there.behind)))),
    rest,
  )
  distinct_by k t ts false rest = rest

  distinct_in : (k : ℕ) (ts : List RecName) → IsDistinct tie (from_place k ts)
  unfolding IsDistinct
  distinct_in k [] = tt
  distinct_in k (t ∷ ts) = distinct_by k t ts (same_name n t) (distinct_in (k + 1) ts)

  -- a test that the record's pointers pass, whatever their places
  any_by : (g : Ref → Bool) → ((place : ℕ) → g (record { from = name_of r; place = place }) ≡ true) → (k : ℕ) (t : RecName) (ts : List RecName) (named : Bool)
      → (named || list_any (same_name n) ts) ≡ true → (list_any (same_name n) ts ≡ true → list_any g (from_place (k + 1) ts) ≡ true)
      → list_any g (with_first named k t ts) ≡ true
  any_by g passes k t ts true some later = ap (λ b. b || list_any g (from_place (k + 1) ts)) (passes k)
  any_by g passes k t ts false some later = later some

  any_pointer : (g : Ref → Bool) → ((place : ℕ) → g (record { from = name_of r; place = place }) ≡ true) → (k : ℕ) (ts : List RecName)
      → list_any (same_name n) ts ≡ true → list_any g (from_place k ts) ≡ true
  any_pointer g passes k [] some = cc
  any_pointer g passes k (t ∷ ts) some = any_by g passes k t ts (same_name n t) some (any_pointer g passes (k + 1) ts)

-- what an item of a flattened list is of
record Source {X Y : Type 0} (k : X → List Y) (y : Y) (xs : List X) : Type 0 where
  item : X
  among : Among item xs
  inside : Among y (k item)

source : {X Y : Type 0} (k : X → List Y) (y : Y) (xs : List X) → Among y (flat_map k xs) → Source k y xs
source k y [] at = absurd at
source k y (x ∷ xs) at = elim (among_append y (k x) (flat_map k xs) at) [
  | inl here ↦ record { item = x; among = inl refl; inside = here }
  | inr later ↦ let rest = source k y xs later in record { item = rest.item; among = inr rest.among; inside = rest.inside }
]

pub distinct_pointers : (n : RecName) (rs : List Rec) → HaveDistinctNames rs → IsDistinct (λ a b. is_eq (ref_order a b)) (flat_map (pointers_in n) rs)
unfolding IsDistinct
distinct_pointers n [] names = tt
distinct_pointers n (r ∷ rs) names =
    distinct_both tie (pointers_in n r) (flat_map (pointers_in n) rs) (distinct_in n r 1 (targets_of r)) (distinct_pointers n rs names.1) (λ p q at there.
    let here = stands n r 1 (targets_of r) p at in
    let from = source (pointers_in n) q rs there in
    let other = stands n from.item 1 (targets_of from.item) q from.inside in
    let differ = no_tie same_name name_of (name_of r) from.item rs names.0 from.among in
    apart p q (λ same.
    let one : name_of r ≡ name_of from.item = sym here.from_is ∙ ap (λ (s : Ref). s.from) same ∙ other.from_is in
    contradiction (same_name (name_of r) (name_of from.item)) differ (ap (λ m. same_name m (name_of from.item)) one ∙ same_self (name_of from.item))))

-- a record that names another has a pointer to it
pub any_pointing : (g : Ref → Bool) (c : Cell) (n : RecName) (r : Rec) → Among r (all_records c)
    → ((place : ℕ) → g (record { from = name_of r; place = place }) ≡ true) → list_any (same_name n) (targets_of r) ≡ true
    → list_any g (lookup_pointers c n) ≡ true
any_pointing g c n r at passes some =
    any-ascending ref_order exact_refs g (flat_map (pointers_in n) (all_records c))
    ∙ any_flat g (pointers_in n) (all_records c)
    ∙ any_passes (λ s. list_any g (pointers_in n s)) r (all_records c) at (any_pointer n r g passes 1 (targets_of r) some)

-- a test that fails for all pointers to a name fails for those of each record
pub none_of_record : (g : Ref → Bool) (c : Cell) (n : RecName) (r : Rec) → list_any g (lookup_pointers c n) ≡ false → Among r (all_records c)
    → list_any g (pointers_in n r) ≡ false
none_of_record g c n r none at = false_from_ne_true (list_any g (pointers_in n r)) (λ some.
    contradiction (list_any g (lookup_pointers c n)) none
    (any-ascending ref_order exact_refs g (flat_map (pointers_in n) (all_records c))
    ∙ any_flat g (pointers_in n) (all_records c)
    ∙ any_passes (λ s. list_any g (pointers_in n s)) r (all_records c) at some))

-- where a test fails for all pointers of a vector record to a name, each of its ends that names it is as the test then tells
module _ (g : Ref → Bool) (n : RecName) (v : Vector) (ok : End → Bool)
    (tells : (k : ℕ) (x : End) → slice_get v.ends k ≡ Some x → g (record { from = v.name; place = k + 1 }) ≡ false → ok x ≡ true) where
  abbrev IsTold : End → Type 0
  IsTold x = same_name n x.to ≡ true → ok x ≡ true

  told_by : (k : ℕ) (x : End) (es : List End) (named : Bool) → same_name n x.to ≡ named → slice_get v.ends k ≡ Some x
      → list_any g (with_first n (V v) named (k + 1) x.to (map (λ (y : End). y.to) es)) ≡ false
      → (list_any g (pointers_at n (V v) (k + 1 + 1) (map (λ (y : End). y.to) es)) ≡ false → AllByRecursion IsTold es) → AllByRecursion IsTold (x ∷ es)
  told_by k x es true is at none rest =
      let parts = or_parts (g (record { from = v.name; place = k + 1 })) (list_any g (pointers_at n (V v) (k + 1 + 1) (map (λ (y : End). y.to) es))) none in
      (λ named. tells k x at parts.0, rest parts.1)
  told_by k x es false is at none rest = (λ named. absurd (contradiction (same_name n x.to) is named), rest none)

  told_from : (k : ℕ) (es : List End) → drop k v.ends ≡ es → list_any g (pointers_at n (V v) (k + 1) (map (λ (x : End). x.to) es)) ≡ false
      → AllByRecursion IsTold es
  told_from k [] at none = tt
  told_from k (x ∷ es) at none =
      told_by k x es (same_name n x.to) refl (sym (got v.ends k) ∙ ap (λ xs. slice_get xs 0) at) none
      (told_from (k + 1) es (sym (drop-drop 1 k v.ends) ∙ ap (drop 1) at))

  pub told : list_any g (pointers_in n (V v)) ≡ false → AllByRecursion (λ (x : End). same_name n x.to ≡ true → ok x ≡ true) v.ends
  told none = told_from 0 v.ends refl none

-- no record names what has no pointers
pub unnamed : (c : Cell) (n : RecName) (r : Rec) → lookup_pointers c n ≡ [] → Among r (all_records c) → list_any (same_name n) (targets_of r) ≡ false
unnamed c n r none at = false_from_ne_true (list_any (same_name n) (targets_of r)) (λ some.
    contradiction (list_any (λ q. true) (lookup_pointers c n)) (ap (list_any (λ (q : Ref). true)) none) (any_pointing (λ q. true) c n r at
    (λ place. refl) some))
