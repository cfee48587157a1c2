-- The first of the faults of a range of places.
use Rattle.std.proofs.Common.{◌≡◌, ℕ, zero, suc, ◌+◌, ◌<◌, List, Option, Some, None, refl, sym, ◌∙◌, ap, arith, filter_map, slice_get, add-zero}
use Rattle.std.specs.List.{range_with_len, cons_option}

pub first_at : {X : Type 0} (h : ℕ → Option X) (a n i : ℕ) (x : X) → i < n → ((k : ℕ) → k < i → h (a + k) ≡ None) → h (a + i) ≡ Some x
    → slice_get (filter_map h (range_with_len a n)) 0 ≡ Some x
first_at h a zero i x within before here = absurd (omega arith)
first_at h a (suc n) zero x within before here =
    ap (λ o. slice_get (cons_option o (filter_map h (range_with_len (a + 1) n))) 0) (ap h (sym (add-zero a)) ∙ here)
first_at h a (suc n) (suc i) x within before here =
    ap (λ o. slice_get (cons_option o (filter_map h (range_with_len (a + 1) n))) 0) (ap h (sym (add-zero a)) ∙ before 0 (omega arith))
    ∙ first_at h (a + 1) n i x (omega arith)
    (λ k below. (let e : a + 1 + k ≡ a + suc k = omega arith in ap h e) ∙ before (suc k) (omega arith))
    ((let e : a + 1 + i ≡ a + suc i = omega arith in ap h e) ∙ here)

pub none_at : {X : Type 0} (h : ℕ → Option X) (a n : ℕ) → ((k : ℕ) → k < n → h (a + k) ≡ None) → slice_get (filter_map h (range_with_len a n)) 0 ≡ None
none_at h a zero none = refl
none_at h a (suc n) none =
    ap (λ o. slice_get (cons_option o (filter_map h (range_with_len (a + 1) n))) 0) (ap h (sym (add-zero a)) ∙ none 0 (omega arith))
    ∙ none_at h (a + 1) n (λ k below. (let e : a + 1 + k ≡ a + suc k = omega arith in ap h e) ∙ none (suc k) (omega arith))

head_none : {X : Type 0} (o : Option X) (xs : List X) → slice_get (cons_option o xs) 0 ≡ None → o ≡ None
head_none None xs h = refl
head_none (Some x) xs h = cc

rest_none : {X : Type 0} (o : Option X) (xs : List X) → slice_get (cons_option o xs) 0 ≡ None → slice_get xs 0 ≡ None
rest_none None xs h = h
rest_none (Some x) xs h = cc

-- no place has a fault where there is no first one
pub each_none : {X : Type 0} (h : ℕ → Option X) (a n : ℕ) → slice_get (filter_map h (range_with_len a n)) 0 ≡ None → (k : ℕ) → k < n → h (a + k) ≡ None
each_none h a zero none k below = absurd (omega arith)
each_none h a (suc n) none zero below = ap h (add-zero a) ∙ head_none (h a) (filter_map h (range_with_len (a + 1) n)) none
each_none h a (suc n) none (suc k) below =
    (let e : a + suc k ≡ a + 1 + k = omega arith in ap h e)
    ∙ each_none h (a + 1) n (rest_none (h a) (filter_map h (range_with_len (a + 1) n)) none) k (omega arith)
