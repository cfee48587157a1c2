-- What a cell answers, read off lists of its records, pointers and identities.
use Rattle.std.proofs.Common.{◌≡◌, ℕ, zero, suc, ◌+◌, ◌<◌, ◌≤◌, ◌⊎◌, inl, inr, ◌&&◌, ◌||◌, Bool, true, false, List, [], ◌∷◌, ◌++◌, length, map, filter, find}
use Rattle.std.proofs.Common.{get_or, Option, None, Some, true≢false, refl, sym, ap, ◌∙◌, arith}
use Rattle.std.specs.Prelude.{cond, flat_map, ◌==◌}
use Rattle.std.specs.declared.cmp.Ordering.{Ordering}
use Rattle.std.specs.declared.cmp.Ordering.TheVariants.{Less, Equal, Greater}
use Rattle.std.specs.Ordering.{is_eq}
use Rattle.std.specs.List.{Contains, IsDistinct, AllByRecursion, enumerate_from, list_any}
use Rattle.std.specs.Borrow.{Bor}
use Rattle.std.specs.List.Sorted.{IsPermutation, IsPartitionPoint}
use Rattle.std.proofs.lemmas.List.{map-append, length-map, get_or-map}
use Rattle.std.proofs.lemmas.Bool.Decides.{nat_tests}
use Rattle.std.proofs.lemmas.List.Elements.{filter-append, All-map}
use Rattle.std.proofs.lemmas.List.Folds.{Any-from_list_any, list_any_none}
use Rattle.std.proofs.lemmas.Map.Keys.{IsDistinct-IsPermutation}
use Rattle.std.proofs.lemmas.List.Sorted.{Contains-permutation, list_any-IsPermutation, IsPermutation-map}
use Rattle.s57_types.specs.declared.name.RecName.{RecName}
use Rattle.s57_types.specs.declared.name.Lnam.{Lnam}
use Rattle.s57_types.specs.declared.record.Rec.{Rec}
use Rattle.s57_types.specs.declared.record.Rec.TheVariants.{V, F, H}
use Rattle.cell_spec.specs.declared.key.Ref.{Ref}
use Rattle.cell_spec.specs.Ascending.{order_by}
use Rattle.cell_spec.specs.Lookup.{name_of, is_named, targets_of, bears, pointers_in}
use Rattle.cell_spec.specs.Names.{kind_rank, name_order, identity_parts, same_name, same_identity}
use Rattle.chain_topo.specs.Listed.{values_at, pointers_from, pointers_of, pointers_listed, identity_of, identities_listed}
use Rattle.cell_spec.proofs.Orders.{names_tie, identities_tie, one_when_same}

same_as : (n a b : RecName) (found : Bool) → same_name n a ≡ found → same_name n b ≡ true → same_name a b ≡ false → same_name n a ≡ false
same_as n a b false e is apart = e
same_as n a b true e is apart =
    let first : n ≡ a = one_when_same n a e in
    absurd (true≢false (sym is ∙ ap (λ z. same_name z b) first ∙ apart))

named_later : (n : RecName) (x : Rec) (rs : List Rec) (k : ℕ) (r : Rec) → k < length rs → get_or rs k r ≡ r → same_name n (name_of r) ≡ true
    → AllByRecursion (λ m. same_name (name_of x) m ≡ false) (map name_of rs) → is_named n x ≡ false
named_later n x [] k r in_range at is apart = absurd (omega arith)
named_later n x (y ∷ rs) zero r in_range at is apart = same_as n (name_of x) (name_of y) (same_name n (name_of x)) refl
    (ap (λ z. same_name n (name_of z)) at ∙ is) apart.0
named_later n x (y ∷ rs) (suc k) r in_range at is apart = named_later n x rs k r (omega arith) at is apart.1

found_at : (n : RecName) (rs : List Rec) (k : ℕ) (r : Rec) → k < length rs → get_or rs k r ≡ r → same_name n (name_of r) ≡ true
    → IsDistinct same_name (map name_of rs) → find (is_named n) rs ≡ Some r
unfolding IsDistinct
found_at n [] k r in_range at is apart = absurd (omega arith)
found_at n (x ∷ rs) zero r in_range at is apart = ap (λ b. cond b (Some x) (find (is_named n) rs)) (ap (λ z. is_named n z) at ∙ is) ∙ ap Some at
found_at n (x ∷ rs) (suc k) r in_range at is apart =
    ap (λ b. cond b (Some x) (find (is_named n) rs)) (named_later n x rs k r (omega arith) at is apart.0) ∙ found_at n rs k r (omega arith) at is apart.1

-- among records with distinct names, a record that has the name is the one found
pub found-distinct : (n : RecName) (rs : List Rec) (r : Rec) → IsDistinct same_name (map name_of rs) → Contains rs r
    → same_name n (name_of r) ≡ true → find (is_named n) rs ≡ Some r
found-distinct n rs r apart among is = found_at n rs among.0 r among.1 among.2 is apart

none_by : (r : Rec) (later : Option Rec) (b others : Bool) → (b || others) ≡ false → (others ≡ false → later ≡ None) → cond b (Some r) later ≡ None
none_by r later true others e h = cc
none_by r later false others e h = h e

-- where no record has the name, none is found
pub found-none : (n : RecName) (rs : List Rec) → list_any (is_named n) rs ≡ false → find (is_named n) rs ≡ None
found-none n [] h = refl
found-none n (r ∷ rs) h = none_by r (find (is_named n) rs) (is_named n r) (list_any (is_named n) rs) h (λ e. found-none n rs e)

any_moved : (n : RecName) (rs ss : List Rec) (found : Bool) → list_any (is_named n) rs ≡ found → IsPermutation rs ss
    → IsDistinct same_name (map name_of rs) → IsDistinct same_name (map name_of ss) → find (is_named n) ss ≡ find (is_named n) rs
any_moved n rs ss false e moved apart others =
    found-none n ss (sym (list_any-IsPermutation (is_named n) rs ss moved) ∙ e) ∙ sym (found-none n rs e)
any_moved n rs ss true e moved apart others =
    let some = Any-from_list_any (is_named n) rs e in
    let among : Contains rs some.1 = (some.0, some.2, some.3) in
    found-distinct n ss some.1 others (Contains-permutation rs ss some.1 moved among) some.4 ∙ sym (found-distinct n rs some.1 apart among some.4)

-- in another order the same record is found
pub found-moved : (n : RecName) (rs ss : List Rec) → IsPermutation rs ss → IsDistinct same_name (map name_of rs)
    → IsDistinct same_name (map name_of ss) → find (is_named n) ss ≡ find (is_named n) rs
found-moved n rs ss moved apart others = any_moved n rs ss (list_any (is_named n) rs) refl moved apart others

numbers_flip : (x y : ℕ) → (x == y) ≡ (y == x)
numbers_flip x y = grind (arith, nat_tests)

names_flip : (n m : RecName) → same_name n m ≡ same_name m n
names_flip n m = λ i. numbers_flip (kind_rank n.kind) (kind_rank m.kind) i && numbers_flip n.id m.id i

-- distinct names are distinct in another order
pub distinct-moved : (rs ss : List Rec) → IsPermutation rs ss → IsDistinct same_name (map name_of rs) → IsDistinct same_name (map name_of ss)
distinct-moved rs ss moved apart = IsDistinct-IsPermutation same_name names_flip (map name_of rs) (map name_of ss) (IsPermutation-map name_of rs ss moved) apart

lower_or_upper : (k i : ℕ) → (k < i) ⊎ (i ≤ k)
lower_or_upper k zero = inr (omega arith)
lower_or_upper zero (suc i) = inl (omega arith)
lower_or_upper (suc k) (suc i) = elim (lower_or_upper k i) [ inl h ↦ inl (omega arith) | inr h ↦ inr (omega arith) ]

-- where all names before a place are below the name and all others above it, no record has it
pub none-between : (n : RecName) (rs : List (Bor Rec)) (i : ℕ) → IsPartitionPoint (λ (r : Bor Rec). name_order (name_of r.now) n ≡ Less)
    (λ (r : Bor Rec). name_order (name_of r.now) n ≡ Greater) rs i
    → list_any (is_named n) (map (λ (r : Bor Rec). r.now) rs) ≡ false
none-between n rs i point =
    list_any_none (is_named n) (map (λ (r : Bor Rec). r.now) rs) (All-map (λ r. is_named n r ≡ false) (λ (r : Bor Rec). r.now) rs (λ k d l.
    elim (lower_or_upper k i) [
      | inl h ↦ sym (names_tie (name_of (get_or rs k d).now) n) ∙ ap is_eq (point.0 k d (omega arith) h)
      | inr h ↦ sym (names_tie (name_of (get_or rs k d).now) n) ∙ ap is_eq (point.1 k d h l)
    ]))

-- the record at a place whose name ties with the name
pub found-there : (n : RecName) (rs : List (Bor Rec)) (k : ℕ) (r : Bor Rec)
    → IsDistinct same_name (map name_of (map (λ (r : Bor Rec). r.now) rs)) → k < length rs → r ≡ get_or rs k r
    → name_order (name_of (get_or rs k r).now) n ≡ Equal → find (is_named n) (map (λ (r : Bor Rec). r.now) rs) ≡ Some r.now
found-there n rs k r apart in_range at ties =
    let record_at : get_or (map (λ (r : Bor Rec). r.now) rs) k r.now ≡ r.now = get_or-map (λ (r : Bor Rec). r.now) rs k r r.now in_range
    ∙ ap (λ (r : Bor Rec). r.now) (sym at) in
    let named : same_name n (name_of r.now) ≡ true = sym (names_tie (name_of r.now) n)
    ∙ ap (λ (z : Bor Rec). is_eq (name_order (name_of z.now) n)) at ∙ ap is_eq ties in
    found-distinct n (map (λ (r : Bor Rec). r.now) rs) r.now apart (k, omega (arith, length-map rs (λ (r : Bor Rec). r.now)), record_at) named

values-append : {K V : Type 0} (by_key : K → K → Ordering) (ps qs : List (K × V)) (key : K)
    → values_at by_key (ps ++ qs) key ≡ values_at by_key ps key ++ values_at by_key qs key
values-append {K} {V} by_key ps qs key =
    let kept : K × V → Bool = λ p. is_eq (by_key p.0 key) in
    ap (map (λ (p : K × V). p.1)) (filter-append kept ps qs) ∙ map-append (λ (p : K × V). p.1) (filter kept ps) (filter kept qs)

pointer_at : RecName → ℕ × RecName → Ref
pointer_at from p = record { from = from; place = p.0 }

one_selected : (from t : RecName) (first : ℕ) (b d : Bool) (rest : List (RecName × Ref)) (later : List (ℕ × RecName)) → b ≡ d
    → map (λ (p : RecName × Ref). p.1) rest ≡ map (pointer_at from) later
    → map (λ (p : RecName × Ref). p.1) (cond b ((t, pointer_at from (first, t)) ∷ rest) rest) ≡ map (pointer_at from) (cond d ((first, t) ∷ later) later)
one_selected from t first true true rest later e h = ap (λ rs. pointer_at from (first, t) ∷ rs) h
one_selected from t first true false rest later e h = cc
one_selected from t first false true rest later e h = cc
one_selected from t first false false rest later e h = h

pointers-selected : (n from : RecName) (first : ℕ) (targets : List RecName) → values_at name_order (pointers_from from first targets) n ≡
    map (pointer_at from) (filter (λ (p : ℕ × RecName). same_name n p.1) (enumerate_from first targets))
unfolding pointer_at
pointers-selected n from first [] = refl
pointers-selected n from first (t ∷ targets) =
    one_selected from t first (is_eq (name_order t n)) (same_name n t)
    (filter (λ (p : RecName × Ref). is_eq (name_order p.0 n)) (pointers_from from (first + 1) targets))
    (filter (λ (p : ℕ × RecName). same_name n p.1) (enumerate_from (first + 1) targets))
    (names_tie t n) (pointers-selected n from (first + 1) targets)

-- the pointers to a name among all pointers of some records
pub pointers-listed : (n : RecName) (rs : List Rec) → values_at name_order (pointers_listed rs) n ≡ flat_map (pointers_in n) rs
unfolding pointer_at
pointers-listed n [] = refl
pointers-listed n (r ∷ rs) =
    values-append name_order (pointers_of r) (pointers_listed rs) n
    ∙ (λ i. pointers-selected n (name_of r) 1 (targets_of r) i ++ pointers-listed n rs i)

bearer_selected : (f : RecName) (l : Lnam) (r : Rec) (b d : Bool) (rs : List Rec) → b ≡ d → name_of r ≡ f
    → map (λ (p : Lnam × RecName). p.1) (cond b ((l, f) ∷ []) []) ++ map name_of rs ≡ map name_of (cond d (r ∷ rs) rs)
bearer_selected f l r true true rs e h = ap (λ z. z ∷ map name_of rs) (sym h)
bearer_selected f l r true false rs e h = cc
bearer_selected f l r false true rs e h = cc
bearer_selected f l r false false rs e h = refl

identity-selected : (l : Lnam) (r : Rec) (rs : List Rec) → values_at (order_by identity_parts) (identity_of r) l
    ++ map name_of (filter (bears l) rs) ≡ map name_of (filter (bears l) (r ∷ rs))
identity-selected l (V v) rs = refl
identity-selected l (F f) rs = bearer_selected f.name f.foid (F f) (is_eq (order_by identity_parts f.foid l)) (same_identity l f.foid)
    (filter (bears l) rs) (identities_tie f.foid l) refl
identity-selected l (H h) rs = refl

-- the bearers of an identifier among all identities of some records
pub identities-listed : (l : Lnam) (rs : List Rec) → values_at (order_by identity_parts) (identities_listed rs) l ≡ map name_of (filter (bears l) rs)
identities-listed l [] = refl
identities-listed l (r ∷ rs) =
    values-append (order_by identity_parts) (identity_of r) (identities_listed rs) l
    ∙ ap (λ ns. values_at (order_by identity_parts) (identity_of r) l ++ ns) (identities-listed l rs)
    ∙ identity-selected l r rs
