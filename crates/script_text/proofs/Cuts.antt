-- What cuts at a mark give.
use Rattle.std.proofs.Common.{◌≡◌, ℕ, ◌+◌, ◌≤◌, ◌==◌, Bool, true, false, List, [], ◌∷◌, ◌++◌, length, take, drop, cond, refl, sym, ap, ◌∙◌, arith, subst}
use Rattle.std.proofs.Common.{Option, Some, None, ltb, eqb}
use Rattle.std.specs.List.{position_or_len}
use Rattle.std.proofs.lemmas.Bool.{eq-eqb, eqb-true, or_parts, or_from, ltb-false}
use Rattle.std.proofs.lemmas.List.{length-append}
use Rattle.std.proofs.Math.Seq.{take-append_seam, drop-append_seam}
use Rattle.std.specs.Option.{unwrap_or}
use Rattle.std.proofs.lemmas.List.Recursion.{is_position_or_len}
use Rattle.s57_types.specs.Subfield.{holds}
use Rattle.script_text.specs.Cuts.{before, from, IsFrom}

-- what a cut at a mark leaves
pub record IsCut (mark : ℕ) (text front rest : List ℕ) : Type 0 where
  pub front_is : before mark text ≡ front
  pub rest_is : from mark text ≡ rest

cut_here : (mark b : ℕ) (text : List ℕ) → b ≡ mark → IsCut mark (b ∷ text) [] (b ∷ text)
cut_here mark b text here = record {
  front_is = ap (λ t. cond t [] (b ∷ before mark text)) (eq-eqb b mark here);
  rest_is = ap (λ t. cond t (b ∷ text) (from mark text)) (eq-eqb b mark here);
}

cut_later : (mark b : ℕ) (text front rest : List ℕ) → (b == mark) ≡ false → IsCut mark text front rest → IsCut mark (b ∷ text) (b ∷ front) rest
cut_later mark b text front rest other cut = record {
  front_is = ap (λ t. cond t [] (b ∷ before mark text)) other ∙ ap (λ t. b ∷ t) cut.front_is;
  rest_is = ap (λ t. cond t (b ∷ text) (from mark text)) other ∙ cut.rest_is;
}

-- a text without the mark, and a rest that begins with it
pub cut_between : (mark : ℕ) (front rest : List ℕ) → holds mark front ≡ false → IsFrom mark rest → IsCut mark (front ++ rest) front rest
cut_between mark [] [] free begins = record { front_is = refl; rest_is = refl }
cut_between mark [] (b ∷ rest) free begins = cut_here mark b rest begins
cut_between mark (b ∷ front) rest free begins =
    let parts = or_parts (b == mark) (holds mark front) free in
    cut_later mark b (front ++ rest) front rest parts.0 (cut_between mark front rest parts.1 begins)

-- every text is cut so
pub record IsWhole (mark : ℕ) (text : List ℕ) : Type 0 where
  pub joined : before mark text ++ from mark text ≡ text
  pub free : holds mark (before mark text) ≡ false
  pub begins : IsFrom mark (from mark text)

whole_cons : (mark b : ℕ) (text front rest : List ℕ) → IsCut mark (b ∷ text) front rest → front ++ rest ≡ b ∷ text → holds mark front ≡ false
    → IsFrom mark rest → IsWhole mark (b ∷ text)
whole_cons mark b text front rest cut joined free begins = record {
  joined = ap (λ t. t ++ from mark (b ∷ text)) cut.front_is ∙ ap (λ t. front ++ t) cut.rest_is ∙ joined;
  free = ap (holds mark) cut.front_is ∙ free;
  begins = subst (IsFrom mark) (sym cut.rest_is) begins;
}

whole_by : (mark b : ℕ) (text : List ℕ) (t : Bool) → (b == mark) ≡ t → IsWhole mark text → IsWhole mark (b ∷ text)
whole_by mark b text true here tail = whole_cons mark b text [] (b ∷ text) (cut_here mark b text (eqb-true b mark here)) refl refl (eqb-true b mark here)
whole_by mark b text false other tail =
    whole_cons mark b text (b ∷ before mark text) (from mark text)
    (cut_later mark b text (before mark text) (from mark text) other (record { front_is = refl; rest_is = refl }))
    (ap (λ t. b ∷ t) tail.joined) (or_from (b == mark) (holds mark (before mark text)) other tail.free) tail.begins

pub whole : (mark : ℕ) (text : List ℕ) → IsWhole mark text
whole mark [] = record { joined = refl; free = refl; begins = tt }
whole mark (b ∷ text) = whole_by mark b text (b == mark) refl (whole mark text)

length_before_cons : (mark b : ℕ) (text : List ℕ) (t : Bool) → length (cond t [] (b ∷ before mark text)) ≡ cond t 0 (1 + length (before mark text))
length_before_cons mark b text true = refl
length_before_cons mark b text false = omega arith

pub length_before : (mark : ℕ) (text : List ℕ) → length (before mark text) ≡ position_or_len (λ b. b == mark) text
length_before mark text = is_position_or_len (λ t. length (before mark t)) (λ b. b == mark) refl (λ b t. length_before_cons mark b t (b == mark)) text

pub length_front : (mark : ℕ) (text : List ℕ) → length (before mark text) ≤ length text
length_front mark text = omega (arith, ap length (whole mark text).joined, length-append (before mark text) (from mark text))

pub length_rest : (mark : ℕ) (text : List ℕ) → length (from mark text) ≤ length text
length_rest mark text = omega (arith, ap length (whole mark text).joined, length-append (before mark text) (from mark text))

place_by : (n len : ℕ) (t : Bool) → ltb n len ≡ t → n ≤ len → unwrap_or (cond t (Some n) None) len ≡ n
place_by n len true below within = refl
place_by n len false above within = let past : len ≤ n = ltb-false n len above in omega arith

-- the place of the first mark, or the end
pub place_is : (mark : ℕ) (text : List ℕ) (place : Option ℕ) → place ≡ cond (ltb (position_or_len (λ b. eqb b mark) text) (length text))
    (Some (position_or_len (λ b. eqb b mark) text)) None
    → unwrap_or place (length text) ≡ length (before mark text)
place_is mark text place found =
    let at : length (before mark text) ≡ position_or_len (λ b. eqb b mark) text = length_before mark text in
    let within : length (before mark text) ≤ length text = length_front mark text in
    ap (λ p. unwrap_or p (length text)) found ∙ place_by _ (length text) _ refl (omega arith) ∙ sym at

pub cut_of : (mark : ℕ) (text front rest : List ℕ) → text ≡ front ++ rest → holds mark front ≡ false → IsFrom mark rest → IsCut mark text front rest
cut_of mark text front rest same free begins = subst (λ t. IsCut mark t front rest) (sym same) (cut_between mark front rest free begins)

pub front_at : (mark : ℕ) (text : List ℕ) (n : ℕ) → n ≡ length (before mark text) → take n text ≡ before mark text
front_at mark text n at =
    let w = whole mark text in
    ap (take n) (sym w.joined) ∙ ap (λ k. take k (before mark text ++ from mark text)) at ∙ take-append_seam (before mark text) (from mark text)

pub rest_at : (mark : ℕ) (text : List ℕ) (n : ℕ) → n ≡ length (before mark text) → drop n text ≡ from mark text
rest_at mark text n at =
    let w = whole mark text in
    ap (drop n) (sym w.joined) ∙ ap (λ k. drop k (before mark text ++ from mark text)) at ∙ drop-append_seam (before mark text) (from mark text)
