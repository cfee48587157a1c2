-- Bytes at places.
use Rattle.std.proofs.Common.{◌≡◌, ◌≤◌, ◌<◌, ℕ, ◌+◌, ◌-◌, List, [], ◌∷◌, ◌++◌, length, take, drop, get_or, sym, ap, ◌∙◌, subst, arith}
use Rattle.std.proofs.Math.Seq.{take-append_seam, drop-append_seam}
use Rattle.std.proofs.lemmas.List.{length-append, length-take, length-drop, drop-drop, drop-take, take-take, get_or-drop, get_or-take}
use Rattle.std.specs.Prelude.{slice_range}
use Rattle.frame_spec.specs.RecordFrame.{bytes_at}
use Rattle.frame_spec.specs.WrittenRecord.{StandsAt}

-- at a place
stands_take : (b : List ℕ) (p : ℕ) (x : List ℕ) → StandsAt b p x → take (length x) (drop p b) ≡ x
stands_take b p x h = let e : p + length x - p ≡ length x = omega arith in ap (λ n. take n (drop p b)) (sym e) ∙ h

take_stands : (b : List ℕ) (p : ℕ) (x : List ℕ) → take (length x) (drop p b) ≡ x → StandsAt b p x
take_stands b p x h = let e : p + length x - p ≡ length x = omega arith in ap (λ n. take n (drop p b)) e ∙ h

pub stands_left : (b : List ℕ) (p : ℕ) (x y : List ℕ) → StandsAt b p (x ++ y) → StandsAt b p x
stands_left b p x y h = let t : List ℕ = drop p b in
    let both : take (length x + length y) t ≡ x ++ y = ap (λ n. take n t) (sym (length-append x y)) ∙ stands_take b p (x ++ y) h in
    take_stands b p x (sym (take-take (length x) (length x + length y) t (omega arith)) ∙ ap (take (length x)) both ∙ take-append_seam x y)

pub stands_right : (b : List ℕ) (p : ℕ) (x y : List ℕ) → StandsAt b p (x ++ y) → StandsAt b (p + length x) y
stands_right b p x y h = let t : List ℕ = drop p b in
    let both : take (length x + length y) t ≡ x ++ y = ap (λ n. take n t) (sym (length-append x y)) ∙ stands_take b p (x ++ y) h in
    take_stands b (p + length x) y (ap (take (length y)) (sym (drop-drop (length x) p b)) ∙ sym (drop-take (length x) (length y) t)
    ∙ ap (drop (length x)) both ∙ drop-append_seam x y)

-- the byte at a place
pub stands_byte : (b : List ℕ) (p c : ℕ) (rest : List ℕ) → StandsAt b p (c ∷ rest) → get_or b p 0 ≡ c
stands_byte b p c rest h =
    let read : get_or (take (length (c ∷ rest)) (drop p b)) 0 0 ≡ c = ap (λ (x : List ℕ). get_or x 0 0) (stands_take b p (c ∷ rest) h) in
    let some : 0 < length (c ∷ rest) = omega arith in
    let place : p + 0 ≡ p = omega arith in
    ap (λ i. get_or b i 0) (sym place) ∙ sym (get_or-drop p b 0 0) ∙ sym (get_or-take (length (c ∷ rest)) (drop p b) 0 0 some) ∙ read

pub stands_next : (b : List ℕ) (p c : ℕ) (rest : List ℕ) → StandsAt b p (c ∷ rest) → StandsAt b (p + 1) rest
stands_next b p c rest h = stands_right b p (c ∷ []) rest h

-- it reaches no further than the bytes
pub stands_within : (b : List ℕ) (p : ℕ) (x : List ℕ) → 0 < length x → StandsAt b p x → p + length x ≤ length b
stands_within b p x some h = let e : length (take (length x) (drop p b)) ≡ length x = ap length (stands_take b p x h) in
    let f = simp (length-take, length-drop) at e in omega (arith, f)

-- what stands in the bytes stands at its place
pub stands_at : (b : List ℕ) (p : ℕ) (x : List ℕ) (i : ℕ) → StandsAt b p x → i < length x → get_or b (p + i) 0 ≡ get_or x i 0
stands_at b p x i h within = sym (get_or-drop p b i 0) ∙ sym (get_or-take (length x) (drop p b) i 0 within)
    ∙ ap (λ (y : List ℕ). get_or y i 0) (stands_take b p x h)

pub stands_part : (b : List ℕ) (p : ℕ) (x : List ℕ) (i n : ℕ) → StandsAt b p x → i + n ≤ length x → bytes_at b (p + i) n ≡ bytes_at x i n
stands_part b p x i n h within = let t : List ℕ = drop p b in
    let there : p + i + n - (p + i) ≡ n = omega arith in
    let here : i + n - i ≡ n = omega arith in
    ap (λ k. take k (drop (p + i) b)) there ∙ ap (take n) (sym (drop-drop i p b)) ∙ sym (drop-take i n t)
    ∙ ap (drop i) (sym (take-take (i + n) (length x) t within) ∙ ap (take (i + n)) (stands_take b p x h))
    ∙ drop-take i n x ∙ sym (ap (λ k. take k (drop i x)) here)

pub stands_bytes : (b : List ℕ) (p : ℕ) (x : List ℕ) (n : ℕ) → StandsAt b p x → length x ≡ n → bytes_at b p n ≡ x
stands_bytes b p x n h is = ap (λ k. slice_range b p (p + k)) (sym is) ∙ h

pub stands_place : (b : List ℕ) (p q : ℕ) (x : List ℕ) → p ≡ q → StandsAt b p x → StandsAt b q x
stands_place b p q x same h = subst (λ (i : ℕ). StandsAt b i x) same h
