-- Texts as parts of words.
use Rattle.std.proofs.Common.{◌≡◌, ℕ, ◌+◌, ◌-◌, ◌*◌, ◌/◌, ◌%◌, ◌<◌, ◌≤◌, ◌==◌, ◌&&◌, not, nat_le, nat_lt, cond, eqb, ltb, true, List, [], ◌∷◌, ◌++◌, length}
use Rattle.std.proofs.Common.{get_or, drop, refl, sym, ap, ◌∙◌, arith, append_assoc}
use Rattle.std.proofs.lemmas.Bool.{and_parts, leb-true, ltb-true, ltb-false, lt-ltb, le-ltb, eq-eqb, ne_eqb, not_from_true, false≢true, cond-true}
use Rattle.std.proofs.lemmas.Bool.{cond-false, cond_both}
use Rattle.std.proofs.lemmas.List.{append-nil}
use Rattle.std.proofs.lemmas.List.Elements.{All-head, All-tail, All-nil, All-cons, All-append}
use Rattle.text_spec.specs.EditLine.{stands_for_itself, hexadecimal, text_byte, text_word}
use Rattle.script_text.specs.Widths.{IsTextOfWidth}
use Rattle.script_text.proofs.Words.{IsFree, free_nothing, free_cons, free_append}

-- a byte that stands for itself is printing ASCII and no percent sign
pub record IsItself (b : ℕ) : Type 0 where
  pub printing : 33 ≤ b
  pub no_percent : b ≡ 37 → ⊥

pub itself : (b : ℕ) → stands_for_itself b ≡ true → IsItself b
itself b is =
    let both = and_parts (nat_le 33 b && nat_le b 126) (not (b == 37)) is in
    let range = and_parts (nat_le 33 b) (nat_le b 126) both.0 in
    record { printing = leb-true 33 b range.0; no_percent = λ here. false≢true (sym (not_from_true (b == 37) (eq-eqb b 37 here)) ∙ both.1) }

-- hexadecimal digits
hex_from : (d : ℕ) → 33 < hexadecimal d
hex_from d = cond_both (nat_lt d 10) (48 + d) (55 + d) (λ x. 33 < x) (λ e. omega arith) (λ e. omega arith)

abbrev value_of : ℕ → ℕ
value_of digit = cond (ltb digit 58) (digit - 48) (digit - 55)

hex_back : (d : ℕ) → value_of (hexadecimal d) ≡ d
hex_back d = cond_both (nat_lt d 10) (48 + d) (55 + d) (λ x. value_of x ≡ d)
    (λ e. let low : 48 + d < 58 = omega (arith, ltb-true d 10 e) in
    cond-true (ltb (48 + d) 58) (48 + d - 48) (48 + d - 55) (lt-ltb (48 + d) 58 low) ∙ omega arith)
    (λ e. let high : 58 ≤ 55 + d = omega (arith, ltb-false d 10 e) in
    cond-false (ltb (55 + d) 58) (55 + d - 48) (55 + d - 55) (le-ltb (55 + d) 58 high) ∙ omega arith)

-- texts have no white space
free_byte : (mark b : ℕ) → mark < 33 → IsFree mark (text_byte b)
free_byte mark b small = cond_both (stands_for_itself b) (b ∷ []) (37 ∷ hexadecimal (b / 16) ∷ hexadecimal (b % 16) ∷ []) (IsFree mark)
    (λ is. free_cons b (λ e. omega (arith, (itself b is).printing)) (free_nothing mark))
    (λ other. free_cons 37 (λ e. omega arith) (free_cons (hexadecimal (b / 16)) (λ e. omega (arith, hex_from (b / 16)))
    (free_cons (hexadecimal (b % 16)) (λ e. omega (arith, hex_from (b % 16))) (free_nothing mark))))

pub free_text : (mark : ℕ) (value : List ℕ) → mark < 33 → IsFree mark (text_word value)
free_text mark [] small = free_nothing mark
free_text mark (b ∷ value) small = free_append (free_byte mark b small) (free_text mark value small)

-- a byte and the rest of a text are read back
abbrev first_of : List ℕ → ℕ
first_of t = cond (eqb (get_or t 0 0) 37) (16 * value_of (get_or t 1 0) + value_of (get_or t 2 0)) (get_or t 0 0)

abbrev behind_of : List ℕ → List ℕ
behind_of t = cond (eqb (get_or t 0 0) 37) (drop 3 t) (drop 1 t)

record IsBack (b : ℕ) (rest text : List ℕ) : Type 0 where
  first : first_of text ≡ b
  behind : behind_of text ≡ rest

byte_back : (b : ℕ) (rest : List ℕ) → b < 256 → IsBack b rest (text_byte b ++ rest)
byte_back b rest small = cond_both (stands_for_itself b) (b ∷ []) (37 ∷ hexadecimal (b / 16) ∷ hexadecimal (b % 16) ∷ []) (λ x. IsBack b rest (x ++ rest))
    (λ is.
    let other = ne_eqb b 37 (itself b is).no_percent in
    record {
      first = cond-false (eqb b 37) (16 * value_of (get_or (b ∷ rest) 1 0) + value_of (get_or (b ∷ rest) 2 0)) b other;
      behind = cond-false (eqb b 37) (drop 3 (b ∷ rest)) rest other;
    })
    (λ other. record { first = omega (arith, hex_back (b / 16), hex_back (b % 16)); behind = refl })

pub record AreSameBytes (b b' : ℕ) (rest rest' : List ℕ) : Type 0 where
  pub byte : b ≡ b'
  pub rest_is : rest ≡ rest'

pub same_byte : (b b' : ℕ) (rest rest' : List ℕ) → b < 256 → b' < 256 → text_byte b ++ rest ≡ text_byte b' ++ rest' → AreSameBytes b b' rest rest'
same_byte b b' rest rest' small small' same =
    let one = byte_back b rest small in
    let other = byte_back b' rest' small' in
    record { byte = sym one.first ∙ ap first_of same ∙ other.first; rest_is = sym one.behind ∙ ap behind_of same ∙ other.behind }

byte_some : (b : ℕ) (rest : List ℕ) → 0 < length (text_byte b ++ rest)
byte_some b rest = cond_both (stands_for_itself b) (b ∷ []) (37 ∷ hexadecimal (b / 16) ∷ hexadecimal (b % 16) ∷ []) (λ x. 0 < length (x ++ rest))
    (λ e. omega arith) (λ e. omega arith)

-- a text is written in one way
pub same_text : (value value' : List ℕ) → IsTextOfWidth value → IsTextOfWidth value' → text_word value ≡ text_word value' → value ≡ value'
same_text [] [] width width' same = refl
same_text [] (b' ∷ value') width width' same = absurd (omega (arith, ap length same, byte_some b' (text_word value')))
same_text (b ∷ value) [] width width' same = absurd (omega (arith, ap length same, byte_some b (text_word value)))
same_text (b ∷ value) (b' ∷ value') width width' same =
    let first = same_byte b b' (text_word value) (text_word value') (All-head (λ x. x < 256) b value width) (All-head (λ x. x < 256) b' value' width') same in
    ap (λ x. x ∷ value) first.byte ∙ ap (λ t. b' ∷ t) (same_text value value' (All-tail (λ x. x < 256) b value width)
    (All-tail (λ x. x < 256) b' value' width') first.rest_is)

-- a text that begins with a percent sign, and one that doesn't
pub escaped_first : (b : ℕ) (behind rest : List ℕ) → 37 ∷ behind ≡ text_byte b ++ rest → behind ≡ hexadecimal (b / 16) ∷ hexadecimal (b % 16) ∷ rest
escaped_first b behind rest = cond_both (stands_for_itself b) (b ∷ []) (37 ∷ hexadecimal (b / 16) ∷ hexadecimal (b % 16) ∷ [])
    (λ x. 37 ∷ behind ≡ x ++ rest → behind ≡ hexadecimal (b / 16) ∷ hexadecimal (b % 16) ∷ rest)
    (λ is same. absurd ((itself b is).no_percent (sym (ap (λ t. get_or t 0 0) same)))) (λ other same. ap (drop 1) same)

pub plain_first : (b first : ℕ) (behind rest : List ℕ) → (first ≡ 37 → ⊥) → first ∷ behind ≡ text_byte b ++ rest → (first ≡ b) × (behind ≡ rest)
plain_first b first behind rest apart = cond_both (stands_for_itself b) (b ∷ []) (37 ∷ hexadecimal (b / 16) ∷ hexadecimal (b % 16) ∷ [])
    (λ x. first ∷ behind ≡ x ++ rest → (first ≡ b) × (behind ≡ rest))
    (λ is same. (ap (λ t. get_or t 0 0) same, ap (drop 1) same)) (λ other same. absurd (apart (ap (λ t. get_or t 0 0) same)))

-- the byte of two digits
pub byte_of_digits : (b high low : ℕ) → b < 256 → high ≡ b / 16 → low ≡ b % 16 → 16 * high + low ≡ b
byte_of_digits b high low small high_is low_is = omega (arith, high_is, low_is)

-- what is left of a text whose beginning is read
pub record IsTextLeft (value taken rest : List ℕ) : Type 0 where
  pub more : List ℕ
  pub width : IsTextOfWidth more
  pub value_is : value ≡ taken ++ more
  pub rest_is : rest ≡ text_word more

pub text_whole : (value part : List ℕ) → IsTextOfWidth value → part ≡ text_word value → IsTextLeft value [] part
text_whole value part width spelled = record { more = value; width = width; value_is = refl; rest_is = spelled }

abbrev pub IsNextByte : List ℕ → ℕ → List ℕ → Type 0
IsNextByte text byte behind = (b : ℕ) (rest : List ℕ) → b < 256 → text ≡ text_byte b ++ rest → (byte ≡ b) × (behind ≡ rest)

text_by : (value taken rest : List ℕ) (byte : ℕ) (behind : List ℕ) → 0 < length rest → IsNextByte rest byte behind
    → (more : List ℕ) → IsTextOfWidth more → value ≡ taken ++ more → rest ≡ text_word more → IsTextLeft value (taken ++ byte ∷ []) behind
text_by value taken rest byte behind some next [] width value_is rest_is = absurd (omega (arith, ap length rest_is))
text_by value taken rest byte behind some next (b ∷ more) width value_is rest_is =
    let now = next b (text_word more) (All-head (λ x. x < 256) b more width) rest_is in
    record {
      more = more;
      width = All-tail (λ x. x < 256) b more width;
      value_is = value_is ∙ sym (append_assoc taken (b ∷ []) more) ∙ ap (λ x. (taken ++ x ∷ []) ++ more) (sym now.0);
      rest_is = now.1;
    }

pub text_step : (value taken rest : List ℕ) (byte : ℕ) (behind : List ℕ) → IsTextLeft value taken rest → 0 < length rest
    → IsNextByte rest byte behind → IsTextLeft value (taken ++ byte ∷ []) behind
text_step value taken rest byte behind left some next = text_by value taken rest byte behind some next left.more left.width left.value_is left.rest_is

text_end_by : (value taken rest : List ℕ) → length rest ≡ 0 → (more : List ℕ) → value ≡ taken ++ more → rest ≡ text_word more → taken ≡ value
text_end_by value taken rest none [] value_is rest_is = sym (value_is ∙ append-nil taken)
text_end_by value taken rest none (b ∷ more) value_is rest_is = absurd (omega (arith, ap length rest_is, byte_some b (text_word more)))

pub text_end : (value taken rest : List ℕ) → IsTextLeft value taken rest → length rest ≡ 0 → taken ≡ value
text_end value taken rest left none = text_end_by value taken rest none left.more left.value_is left.rest_is

pub width_more : (text : List ℕ) (byte : ℕ) → IsTextOfWidth text → byte < 256 → IsTextOfWidth (text ++ byte ∷ [])
width_more text byte width small = All-append (λ x. x < 256) text (byte ∷ []) width (All-cons (λ x. x < 256) byte [] small (All-nil (λ x. x < 256)))
