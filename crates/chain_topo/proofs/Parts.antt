-- Pairs sorted with each once, cut into keys and values; and the part of the values that one key has.
use Rattle.std.proofs.Common.{◌≡◌, ℕ, zero, suc, ◌+◌, ◌<◌, ◌≤◌, true, false, List, [], ◌∷◌, length, take, drop, map, filter, get_or, ◌-◌, true≢false, refl}
use Rattle.std.proofs.Common.{sym, ap, ◌∙◌, arith}
use Rattle.std.specs.Prelude.{cond}
use Rattle.std.specs.declared.cmp.Ordering.{Ordering}
use Rattle.std.specs.declared.cmp.Ordering.TheVariants.{Less, Equal, Greater}
use Rattle.std.specs.Ordering.{is_eq, is_lt, is_le, ordering_index, ordering_reverse, ordering_then}
use Rattle.std.specs.Cmp.{IsTotalOrder}
use Rattle.std.specs.List.{zip}
use Rattle.std.specs.List.Sorted.{IsSorted, IsStrictlySortedBy, IsPartitionedBy, IsPartitionPoint}
use Rattle.std.proofs.lemmas.List.Sorted.{searchable_from_sorted}
use Rattle.chain_topo.specs.Listed.{values_at, pair_order}
use Rattle.chain_topo.specs.Span.{IsSpan}

-- firsts beside seconds are the pairs
pub zip-parts : {K V : Type 0} (ps : List (K × V)) → zip (map (λ (p : K × V). p.0) ps) (map (λ (p : K × V). p.1) ps) ≡ ps
zip-parts [] = refl
zip-parts (p ∷ ps) = ap (λ qs. p ∷ qs) (zip-parts ps)

not_equal_below : (o : Ordering) → is_lt o ≡ true → is_eq o ≡ false
not_equal_below Less h = refl
not_equal_below Equal h = cc
not_equal_below Greater h = refl

not_equal_above : (o : Ordering) → is_le o ≡ false → is_eq o ≡ false
not_equal_above Less h = refl
not_equal_above Equal h = cc
not_equal_above Greater h = refl

equal_between : (o : Ordering) → is_lt o ≡ false → is_le o ≡ true → is_eq o ≡ true
equal_between Less h e = cc
equal_between Equal h e = refl
equal_between Greater h e = cc

not_above_below : (o : Ordering) → is_lt o ≡ true → is_le o ≡ false → true ≡ false
not_above_below Less h e = e
not_above_below Equal h e = cc
not_above_below Greater h e = cc

less_earlier : (a b : Ordering) → ordering_index a ≤ ordering_index b → is_lt b ≡ true → is_lt a ≡ true
less_earlier Less b h e = refl
less_earlier Equal Less h e = absurd (omega arith)
less_earlier Equal Equal h e = e
less_earlier Equal Greater h e = e
less_earlier Greater Less h e = absurd (omega arith)
less_earlier Greater Equal h e = e
less_earlier Greater Greater h e = e

at_most_earlier : (a b : Ordering) → ordering_index a ≤ ordering_index b → is_le b ≡ true → is_le a ≡ true
at_most_earlier Less b h e = refl
at_most_earlier Equal b h e = refl
at_most_earlier Greater Less h e = absurd (omega arith)
at_most_earlier Greater Equal h e = absurd (omega arith)
at_most_earlier Greater Greater h e = e

not_less_later : (a b : Ordering) → ordering_index a ≤ ordering_index b → is_lt a ≡ false → is_lt b ≡ false
not_less_later Less b h e = cc
not_less_later Equal Less h e = absurd (omega arith)
not_less_later Equal Equal h e = refl
not_less_later Equal Greater h e = refl
not_less_later Greater Less h e = absurd (omega arith)
not_less_later Greater Equal h e = absurd (omega arith)
not_less_later Greater Greater h e = refl

above_later : (a b : Ordering) → ordering_index a ≤ ordering_index b → is_le a ≡ false → is_le b ≡ false
above_later Less b h e = cc
above_later Equal b h e = cc
above_later Greater Less h e = absurd (omega arith)
above_later Greater Equal h e = absurd (omega arith)
above_later Greater Greater h e = refl

cut_nothing : (V : Type 0) (n from : ℕ) → take {A = V} n (drop from []) ≡ []
cut_nothing V zero zero = refl
cut_nothing V zero (suc from) = refl
cut_nothing V (suc n) zero = refl
cut_nothing V (suc n) (suc from) = refl

module _ {K : Type 0} (by_key : K → K → Ordering) (key : K) where
  both_later : (k : K) (ks : List K) (from to : ℕ) → IsSpan by_key key (k ∷ ks) (suc from) (suc to) → IsSpan by_key key ks from to
  both_later k ks from to p = record {
    below = λ i d h. p.below (suc i) d (omega arith);
    not_below = λ i d h l. p.not_below (suc i) d (omega arith) (omega arith);
    not_above = λ i d h. p.not_above (suc i) d (omega arith);
    above = λ i d h l. p.above (suc i) d (omega arith) (omega arith);
  }

  end_later : (k : K) (ks : List K) (to : ℕ) → IsSpan by_key key (k ∷ ks) zero (suc to) → IsSpan by_key key ks zero to
  end_later k ks to p = record {
    below = λ i d h. absurd (omega arith);
    not_below = λ i d h l. p.not_below (suc i) d (omega arith) (omega arith);
    not_above = λ i d h. p.not_above (suc i) d (omega arith);
    above = λ i d h l. p.above (suc i) d (omega arith) (omega arith);
  }

  none_later : (k : K) (ks : List K) → IsSpan by_key key (k ∷ ks) zero zero → IsSpan by_key key ks zero zero
  none_later k ks p = record {
    below = λ i d h. absurd (omega arith);
    not_below = λ i d h l. p.not_below (suc i) d (omega arith) (omega arith);
    not_above = λ i d h. absurd (omega arith);
    above = λ i d h l. p.above (suc i) d (omega arith) (omega arith);
  }

  -- the keys that tie begin no later than they end
  pub span_rises : (keys : List K) (from to : ℕ) → from ≤ length keys → IsSpan by_key key keys from to → from ≤ to
  span_rises [] from to in_range p = omega arith
  span_rises (k ∷ ks) zero to in_range p = omega arith
  span_rises (k ∷ ks) (suc from) zero in_range p = absurd (true≢false
      (not_above_below (by_key k key) (p.below zero k (omega arith)) (p.above zero k (omega arith) (omega arith))))
  span_rises (k ∷ ks) (suc from) (suc to) in_range p = let rest = span_rises ks from to (omega arith) (both_later k ks from to p) in omega arith

  -- what two searches among sorted keys answer
  pub span-from_searches : IsTotalOrder by_key → (keys : List K) (from to : ℕ) → IsSorted by_key keys
      → (IsPartitionedBy (λ k. is_lt (by_key k key)) keys → IsPartitionPoint (λ k. is_lt (by_key k key) ≡ true) (λ k. is_lt (by_key k key) ≡ false) keys from)
      → (IsPartitionedBy (λ k. is_le (by_key k key)) keys → IsPartitionPoint (λ k. is_le (by_key k key) ≡ true) (λ k. is_le (by_key k key) ≡ false) keys to)
      → IsSpan by_key key keys from to
  span-from_searches total keys from to rising first last =
      let rises = searchable_from_sorted total (λ (k : K). k) keys key rising in
      let lower = first (λ i j d h l. less_earlier (by_key (get_or keys i d) key) (by_key (get_or keys j d) key) (rises i j d h l)) in
      let upper = last (λ i j d h l. at_most_earlier (by_key (get_or keys i d) key) (by_key (get_or keys j d) key) (rises i j d h l)) in
      record {
        below = λ i d h. lower.0 i d (omega arith) h;
        not_below = λ i d h l. lower.1 i d h l;
        not_above = λ i d h. upper.0 i d (omega arith) h;
        above = λ i d h l. upper.1 i d h l;
      }

  -- where the keys beside two places are as they are at the ends of a span, these are its ends
  pub span-from_ends : IsTotalOrder by_key → (keys : List K) (from to : ℕ) → IsSorted by_key keys → from ≤ length keys → to ≤ length keys
      → (0 < from → (d : K) → is_lt (by_key (get_or keys (from - 1) d) key) ≡ true)
      → (from < length keys → (d : K) → is_lt (by_key (get_or keys from d) key) ≡ false)
      → (0 < to → (d : K) → is_le (by_key (get_or keys (to - 1) d) key) ≡ true)
      → (to < length keys → (d : K) → is_le (by_key (get_or keys to d) key) ≡ false)
      → IsSpan by_key key keys from to
  span-from_ends total keys from to rising first_in last_in lower not_lower not_upper upper =
      let rises = searchable_from_sorted total (λ (k : K). k) keys key rising in
      record {
        below = λ i d h. less_earlier (by_key (get_or keys i d) key) (by_key (get_or keys (from - 1) d) key)
            (rises i (from - 1) d (omega arith) (omega arith)) (lower (omega arith) d);
        not_below = λ i d h l. not_less_later (by_key (get_or keys from d) key) (by_key (get_or keys i d) key) (rises from i d h l) (not_lower (omega arith) d);
        not_above = λ i d h. at_most_earlier (by_key (get_or keys i d) key) (by_key (get_or keys (to - 1) d) key)
            (rises i (to - 1) d (omega arith) (omega arith)) (not_upper (omega arith) d);
        above = λ i d h l. above_later (by_key (get_or keys to d) key) (by_key (get_or keys i d) key) (rises to i d h l) (upper (omega arith) d);
      }

module _ {K V : Type 0} (by_key : K → K → Ordering) (key : K) where
  passed : (k : K) (v : V) (ps : List (K × V)) → is_eq (by_key k key) ≡ false → values_at by_key ((k, v) ∷ ps) key ≡ values_at by_key ps key
  passed k v ps e = ap (λ b. map (λ (p : K × V). p.1) (cond b ((k, v) ∷ filter (λ (p : K × V). is_eq (by_key p.0 key)) ps)
      (filter (λ (p : K × V). is_eq (by_key p.0 key)) ps))) e

  taken : (k : K) (v : V) (ps : List (K × V)) → is_eq (by_key k key) ≡ true → values_at by_key ((k, v) ∷ ps) key ≡ v ∷ values_at by_key ps key
  taken k v ps e = ap (λ b. map (λ (p : K × V). p.1) (cond b ((k, v) ∷ filter (λ (p : K × V). is_eq (by_key p.0 key)) ps)
      (filter (λ (p : K × V). is_eq (by_key p.0 key)) ps))) e

  -- the values beside the keys that tie
  pub group-between : (keys : List K) (values : List V) (from to : ℕ) → length keys ≡ length values → IsSpan by_key key keys from to
      → take (to - from) (drop from values) ≡ values_at by_key (zip keys values) key
  group-between [] [] from to long p = cut_nothing V (to - from) from
  group-between [] (v ∷ vs) from to long p = absurd (omega arith)
  group-between (k ∷ ks) [] from to long p = absurd (omega arith)
  group-between (k ∷ ks) (v ∷ vs) (suc from) (suc to) long p =
      let less : suc to - suc from ≡ to - from = omega arith in
      ap (λ n. take n (drop from vs)) less ∙ group-between ks vs from to (omega arith) (both_later by_key key k ks from to p)
      ∙ sym (passed k v (zip ks vs) (not_equal_below (by_key k key) (p.below zero k (omega arith))))
  group-between (k ∷ ks) (v ∷ vs) (suc from) zero long p = absurd
      (true≢false (not_above_below (by_key k key) (p.below zero k (omega arith)) (p.above zero k (omega arith) (omega arith))))
  group-between (k ∷ ks) (v ∷ vs) zero (suc to) long p =
      let same : suc to - zero ≡ suc to = omega arith in
      let same_later : to ≡ to - zero = omega arith in
      ap (λ n. take n (v ∷ vs)) same ∙ ap (λ n. v ∷ take n vs) same_later
      ∙ ap (λ ws. v ∷ ws) (group-between ks vs zero to (omega arith) (end_later by_key key k ks to p))
      ∙ sym (taken k v (zip ks vs) (equal_between (by_key k key) (p.not_below zero k (omega arith) (omega arith)) (p.not_above zero k (omega arith))))
  group-between (k ∷ ks) (v ∷ vs) zero zero long p =
      group-between ks vs zero zero (omega arith) (none_later by_key key k ks p)
      ∙ sym (passed k v (zip ks vs) (not_equal_above (by_key k key) (p.above zero k (omega arith) (omega arith))))

module _ {K V : Type 0} (by_key : K → K → Ordering) (by_value : V → V → Ordering) (total : IsTotalOrder by_key) where
  not_less_after : (p q : K × V) (found : Ordering) → by_key p.0 q.0 ≡ found → ordering_then found (by_value p.1 q.1) ≡ Less → is_lt (by_key q.0 p.0) ≡ false
  not_less_after p q Less e h = ap is_lt (total.antisymm q.0 p.0 ∙ ap ordering_reverse e)
  not_less_after p q Equal e h = ap is_lt (total.antisymm q.0 p.0 ∙ ap ordering_reverse e)
  not_less_after p q Greater e h = cc

  rises_from : (ps : List (K × V)) → IsStrictlySortedBy (pair_order by_key by_value) ps → (i j : ℕ) (d : K) → j ≡ i + 1
      → j < length (map (λ (p : K × V). p.0) ps)
      → is_lt (by_key (get_or (map (λ (p : K × V). p.0) ps) j d) (get_or (map (λ (p : K × V). p.0) ps) i d)) ≡ false
  unfolding IsStrictlySortedBy
  rises_from [] h i j d e l = absurd (omega arith)
  rises_from (p ∷ []) h i j d e l = absurd (omega arith)
  rises_from (p ∷ q ∷ ps) h i zero d e l = absurd (omega arith)
  rises_from (p ∷ q ∷ ps) h zero (suc zero) d e l = not_less_after p q (by_key p.0 q.0) refl h.0.0
  rises_from (p ∷ q ∷ ps) h zero (suc (suc j)) d e l = absurd (omega arith)
  rises_from (p ∷ q ∷ ps) h (suc i) (suc j) d e l = rises_from (q ∷ ps) h.1 i j d (omega arith) (omega arith)

  -- the keys of ascending pairs rise
  pub keys-rise : (ps : List (K × V)) → IsStrictlySortedBy (pair_order by_key by_value) ps → IsSorted by_key (map (λ (p : K × V). p.0) ps)
  keys-rise ps h k d low high = rises_from ps h k (k + 1) d refl high
