-- What bytes are cut into spells these bytes.
use Rattle.std.proofs.Common.{◌≡◌, ℕ, zero, suc, ◌+◌, ◌*◌, ◌/◌, ◌%◌, ◌^◌, ◌<◌, ◌≤◌, ◌==◌, ◌&&◌, Bool, true, false, not, cond, List, [], ◌∷◌, ◌++◌, length}
use Rattle.std.proofs.Common.{take, drop, position, nat_lt, slice_index, Option, Some, None, refl, sym, ap, ◌∙◌, subst, append_assoc, arith}
use Rattle.std.proofs.lemmas.List.{take-append-drop, length-take-le}
use Rattle.std.proofs.lemmas.List.Sums.{split_at_first, passes_at_first}
use Rattle.std.proofs.lemmas.Bool.Decides.{nat_tests}
use Rattle.std.proofs.Math.Facts.{of_z-to_z, sfits_to_z, Fits-of_lt}
use Rattle.std.proofs.Math.Nat.{add-mul-div_left, add-mul-mod_self_left, div-div-eq-div-mul, mod-eq_of_lt, pow-succ'}
use Rattle.std.specs.Option.{option_map, option_and_then}
use Rattle.std.specs.List.{flat_map, position_or_len, AllByRecursion}
use Rattle.std.specs.Int.{w32, cast_signed, byte_at, bytes_low_first}
use Rattle.byteorder.specs.Endian.{little_number, little_from}
use Rattle.byteorder.specs.Numbers.{little_from-cons}
use Rattle.s57_types.specs.Subfield.{Form, Subfield, unsigned, signed, text, wide_text, fixed, unsigned_of, signed_of, text_of, wide_text_of, fixed_of}
use Rattle.s57_types.specs.Subfield.{form_of, spelling, row_bytes, IsSubfield, unit_terminator, holds, has_unit}
use Rattle.field_spec.specs.Cutting.{split, split_units, front, cut_row, cut_rows}
use Rattle.field_spec.specs.FieldContent.{IsRow}

abbrev pub AreBytes : List ℕ → Type 0
AreBytes = AllByRecursion (λ b. b < 256)

pub AreBytes-append : (xs ys : List ℕ) → AreBytes (xs ++ ys) → AreBytes xs × AreBytes ys
AreBytes-append [] ys all = (tt, all)
AreBytes-append (x ∷ xs) ys all = let later = AreBytes-append xs ys all.1 in ((all.0, later.0), later.1)

-- the numbers of bytes give the bytes back
byte_at-suc : (i n : ℕ) → byte_at (suc i) n ≡ byte_at i (n / 256)
byte_at-suc zero n = refl
byte_at-suc (suc i) n = ap (λ q. q % 256) (ap (λ p. n / p) (pow-succ' 256 (suc i)) ∙ sym (div-div-eq-div-mul n 256 (256 ^ suc i)))

bytes_low_first-suc : (i w n : ℕ) → bytes_low_first (suc i) w n ≡ bytes_low_first i w (n / 256)
bytes_low_first-suc i zero n = refl
bytes_low_first-suc i (suc w) n = rw (byte_at-suc i n, bytes_low_first-suc (suc i) w n) refl

bytes_low_first-cons : (w b m : ℕ) → b < 256 → bytes_low_first 0 (suc w) (b + 256 * m) ≡ b ∷ bytes_low_first 0 w m
bytes_low_first-cons w b m small =
    let low : (b + 256 * m) % 256 ≡ b = add-mul-mod_self_left b 256 m ∙ mod-eq_of_lt small in
    let none : b / 256 ≡ 0 = omega arith in
    let high : (b + 256 * m) / 256 ≡ m = add-mul-div_left b m (omega arith) ∙ ap (λ q. q + m) none ∙ omega arith in
    rw low (ap (λ t. b ∷ t) (bytes_low_first-suc 0 w (b + 256 * m) ∙ ap (bytes_low_first 0 w) high))

number_bytes : (w : ℕ) (bs : List ℕ) → length bs ≡ w → AreBytes bs → bytes_low_first 0 w (little_number w bs) ≡ bs
number_bytes zero [] size all = refl
number_bytes zero (b ∷ bs) size all = absurd (omega arith)
number_bytes (suc w) [] size all = absurd (omega arith)
number_bytes (suc w) (b ∷ bs) size all =
    ap (λ m. bytes_low_first 0 (suc w) (b + 256 * m)) (little_from-cons 0 w b bs)
    ∙ bytes_low_first-cons w b (little_from 0 w bs) all.0
    ∙ ap (λ t. b ∷ t) (number_bytes w bs (omega arith) all.1)

number_fits : (w : ℕ) (bs : List ℕ) → length bs ≡ w → AreBytes bs → little_number w bs < 256 ^ w
number_fits zero [] size all = omega arith
number_fits zero (b ∷ bs) size all = absurd (omega arith)
number_fits (suc w) [] size all = absurd (omega arith)
number_fits (suc w) (b ∷ bs) size all =
    let later = number_fits w bs (omega arith) all.1 in
    let moved = little_from-cons 0 w b bs in
    let small = all.0 in
    rw (moved, pow-succ' 256 w) (omega arith)

-- a front of so many bytes
record IsSplit (n : ℕ) (b : List ℕ) (x : List ℕ × List ℕ) : Type 0 where
  joined : b ≡ x.0 ++ x.1
  size : length x.0 ≡ n

split_back : (n : ℕ) (b : List ℕ) (x : List ℕ × List ℕ) → split n b ≡ Some x → IsSplit n b x
split_back n b x e = tested (nat_lt (length b) n) refl e
  where
    tested : (few : Bool) → nat_lt (length b) n ≡ few → cond few None (Some (take n b, drop n b)) ≡ Some x → IsSplit n b x
    tested true is e = absurd cc
    tested false is e =
        let enough : n ≤ length b = grind (arith, nat_tests) in
        let same : (take n b, drop n b) ≡ x = cc in
        subst (IsSplit n b) same (record { joined = sym (take-append-drop n b); size = length-take-le n b enough })

-- a subfield that was cut off
pub record IsFront (form : Form) (b : List ℕ) (x : Subfield × List ℕ) : Type 0 where
  pub form_is : form_of x.0 ≡ form
  pub bytes_are : b ≡ spelling x.0 ++ x.1
  pub fits : IsSubfield x.0

-- what was made of a value that was there
pub mapped_back : {A B : Type 0} (f : A → B) (P : B → Type 0) (o : Option A) (y : B) → option_map f o ≡ Some y → ((x : A) → o ≡ Some x → P (f x)) → P y
mapped_back f P None y e each = absurd cc
mapped_back f P (Some x) y e each = let same : f x ≡ y = cc in subst P same (each x refl)

pub bound_back : {A B : Type 0} (f : A → Option B) (P : Type 0) (o : Option A) (y : B) → option_and_then f o ≡ Some y
    → ((x : A) → o ≡ Some x → f x ≡ Some y → P) → P
bound_back f P None y e each = absurd cc
bound_back f P (Some x) y e each = each x refl e

unsigned_back : (w : ℕ) (b : List ℕ) (x : Subfield × List ℕ) → AreBytes b → front (unsigned w) b ≡ Some x → IsFront (unsigned w) b x
unsigned_back w b x all e = mapped_back (λ (y : List ℕ × List ℕ). (unsigned_of w (little_number w y.0), y.1)) (IsFront (unsigned w) b) (split w b) x e (λ y is.
    let cut = split_back w b y is in
    let parts = AreBytes-append y.0 y.1 (subst AreBytes cut.joined all) in
    record {
      form_is = refl;
      bytes_are = cut.joined ∙ ap (λ t. t ++ y.1) (sym (number_bytes w y.0 cut.size parts.0));
      fits = number_fits w y.0 cut.size parts.0;
    })

signed_back : (b : List ℕ) (x : Subfield × List ℕ) → AreBytes b → front signed b ≡ Some x → IsFront signed b x
signed_back b x all e = mapped_back (λ (y : List ℕ × List ℕ). (signed_of (cast_signed w32 (little_number 4 y.0)), y.1)) (IsFront signed b)
    (split 4 b) x e (λ y is.
    let cut = split_back 4 b y is in
    let parts = AreBytes-append y.0 y.1 (subst AreBytes cut.joined all) in
    let n = little_number 4 y.0 in
    let small = number_fits 4 y.0 cut.size parts.0 in
    record {
      form_is = refl;
      bytes_are = cut.joined ∙ ap (λ t. t ++ y.1) (sym (ap (bytes_low_first 0 4) (of_z-to_z {w = w32} {n = n} (Fits-of_lt small))
          ∙ number_bytes 4 y.0 cut.size parts.0));
      fits = sfits_to_z {w = w32} {n = n} (Fits-of_lt small);
    })

none_before : (b : List ℕ) → holds unit_terminator (take (position_or_len (λ c. c == unit_terminator) b) b) ≡ false
none_before [] = refl
none_before (c ∷ b) = either (c == unit_terminator) refl (none_before b)
  where
    either : (here : Bool) → (c == unit_terminator) ≡ here → holds unit_terminator (take (position_or_len (λ d. d == unit_terminator) b) b) ≡
        false → holds unit_terminator (take (cond (not here) (1 + position_or_len (λ d. d == unit_terminator) b) 0) (c ∷ b)) ≡ false
    either true is later = refl
    either false is later =
        let next : 1 + position_or_len (λ d. d == unit_terminator) b ≡ suc (position_or_len (λ d. d == unit_terminator) b) = omega arith in
        rw (next, is) later

text_back : (b : List ℕ) (x : Subfield × List ℕ) → front text b ≡ Some x → IsFront text b x
text_back b x e = mapped_back (λ (i : ℕ). (text_of (take i b), drop (i + 1) b)) (IsFront text b) (position (λ c. c == unit_terminator) b) x e
    (λ i is. tested (nat_lt (position_or_len (λ c. c == unit_terminator) b) (length b)) refl i is)
  where
    tested : (found : Bool) → nat_lt (position_or_len (λ c. c == unit_terminator) b) (length b) ≡ found → (i : ℕ)
        → cond found (Some (position_or_len (λ c. c == unit_terminator) b)) None ≡ Some i
        → IsFront text b (text_of (take i b), drop (i + 1) b)
    tested false is i e = absurd cc
    tested true is i e =
        let at = position_or_len (λ c. c == unit_terminator) b in
        let within : at < length b = grind (arith, nat_tests) in
        let same : at ≡ i = cc in
        let mark : slice_index b at ≡ unit_terminator = grind (arith, nat_tests, passes_at_first (λ c. c == unit_terminator) b 0 within) in
        let cut : b ≡ take at b ++ (slice_index b at ∷ drop (at + 1) b) = split_at_first (λ c. c == unit_terminator) b 0 within in
        subst (λ (k : ℕ). IsFront text b (text_of (take k b), drop (k + 1) b)) same (record {
          form_is = refl;
          bytes_are = cut ∙ ap (λ c. take at b ++ (c ∷ drop (at + 1) b)) mark ∙ sym (append_assoc (take at b) (unit_terminator ∷ []) (drop (at + 1) b));
          fits = none_before b;
        })

-- two-byte units before their terminator
record IsUnits (b : List ℕ) (x : List ℕ × List ℕ) : Type 0 where
  joined : b ≡ x.0 ++ (unit_terminator ∷ 0 ∷ x.1)
  even : length x.0 % 2 ≡ 0
  none : has_unit unit_terminator x.0 ≡ false

units_back : (b : List ℕ) (x : List ℕ × List ℕ) → split_units b ≡ Some x → IsUnits b x
units_back [] x e = absurd cc
units_back (c ∷ []) x e = absurd cc
units_back (c ∷ d ∷ rest) x e = tested ((c == unit_terminator) && (d == 0)) refl (λ y is. units_back rest y is) e
  where
    both : (a b : Bool) → (a && b) ≡ true → (a ≡ true) × (b ≡ true)
    both true b e = (refl, e)
    both false b e = absurd cc

    tested : (here : Bool) → ((c == unit_terminator) && (d == 0)) ≡ here → ((y : List ℕ × List ℕ) → split_units rest ≡ Some y → IsUnits rest y)
        → cond here (Some ([], rest)) (option_map (λ y. (c ∷ d ∷ y.0, y.1)) (split_units rest)) ≡ Some x → IsUnits (c ∷ d ∷ rest) x
    tested true is behind e =
        let parts = both (c == unit_terminator) (d == 0) is in
        let low : c ≡ unit_terminator = grind (arith, nat_tests, parts.0) in
        let high : d ≡ 0 = grind (arith, nat_tests, parts.1) in
        let start : List ℕ × List ℕ = ([], rest) in
        let same : start ≡ x = cc in
        subst (IsUnits (c ∷ d ∷ rest)) same (record { joined = rw (low, high) refl; even = refl; none = refl })
    tested false is behind e = mapped_back (λ (y : List ℕ × List ℕ). (c ∷ d ∷ y.0, y.1)) (IsUnits (c ∷ d ∷ rest)) (split_units rest) x e (λ y was.
        let later = behind y was in
        record {
          joined = ap (λ t. c ∷ d ∷ t) later.joined;
          even = omega (arith, later.even);
          none = rw is later.none;
        })

wide_back : (b : List ℕ) (x : Subfield × List ℕ) → front wide_text b ≡ Some x → IsFront wide_text b x
wide_back b x e = mapped_back (λ (y : List ℕ × List ℕ). (wide_text_of y.0, y.1)) (IsFront wide_text b) (split_units b) x e (λ y is.
    let cut = units_back b y is in
    record {
      form_is = refl;
      bytes_are = cut.joined ∙ sym (append_assoc y.0 (unit_terminator ∷ 0 ∷ []) y.1);
      fits = (cut.even, cut.none);
    })

fixed_back : (n : ℕ) (b : List ℕ) (x : Subfield × List ℕ) → front (fixed n) b ≡ Some x → IsFront (fixed n) b x
fixed_back n b x e = mapped_back (λ (y : List ℕ × List ℕ). (fixed_of y.0, y.1)) (IsFront (fixed n) b) (split n b) x e (λ y is.
    let cut = split_back n b y is in
    record { form_is = ap fixed cut.size; bytes_are = cut.joined; fits = tt })

front_back : (form : Form) (b : List ℕ) (x : Subfield × List ℕ) → AreBytes b → front form b ≡ Some x → IsFront form b x
front_back (unsigned w) b x all e = unsigned_back w b x all e
front_back signed b x all e = signed_back b x all e
front_back text b x all e = text_back b x e
front_back wide_text b x all e = wide_back b x e
front_back (fixed n) b x all e = fixed_back n b x e

-- a row that was cut off
pub record IsRowFront (forms : List Form) (b : List ℕ) (x : List Subfield × List ℕ) : Type 0 where
  pub is_row : IsRow forms x.0
  pub bytes_are : b ≡ row_bytes x.0 ++ x.1

pub row_back : (forms : List Form) (b : List ℕ) (x : List Subfield × List ℕ) → AreBytes b → cut_row forms b ≡ Some x → IsRowFront forms b x
row_back [] b x all e =
    let start : List Subfield × List ℕ = ([], b) in
    let same : start ≡ x = cc in
    subst (IsRowFront [] b) same (record { is_row = record { forms_are = refl; each = tt }; bytes_are = refl })
row_back (form ∷ forms) b x all e = bound_back (λ (y : Subfield × List ℕ). option_map (λ z. (y.0 ∷ z.0, z.1)) (cut_row forms y.1))
    (IsRowFront (form ∷ forms) b x) (front form b) x e (λ y is more.
    let first = front_back form b y all is in
    let parts = AreBytes-append (spelling y.0) y.1 (subst AreBytes first.bytes_are all) in
    mapped_back (λ (z : List Subfield × List ℕ). (y.0 ∷ z.0, z.1)) (IsRowFront (form ∷ forms) b) (cut_row forms y.1) x more (λ z was.
    let later = row_back forms y.1 z parts.1 was in
    record {
      is_row = record { forms_are = rw (first.form_is, later.is_row.forms_are) refl; each = (first.fits, later.is_row.each) };
      bytes_are = first.bytes_are ∙ ap (λ t. spelling y.0 ++ t) later.bytes_are ∙ sym (append_assoc (spelling y.0) (row_bytes z.0) z.1);
    }))

-- rows that use bytes up
pub record AreRows (forms : List Form) (b : List ℕ) (rows : List (List Subfield)) : Type 0 where
  pub each : AllByRecursion (IsRow forms) rows
  pub bytes_are : b ≡ flat_map row_bytes rows

pub rows_back : (n : ℕ) (forms : List Form) (b : List ℕ) (rows : List (List Subfield)) → AreBytes b → cut_rows n forms b ≡ Some rows → AreRows forms b rows
rows_back n forms [] rows all e =
    let same : [] ≡ rows = cc in
    subst (AreRows forms []) same (record { each = tt; bytes_are = refl })
rows_back zero forms (c ∷ b) rows all e = absurd cc
rows_back (suc n) forms (c ∷ b) rows all e = bound_back (λ (x : List Subfield × List ℕ). option_map (λ others. x.0 ∷ others)
    (cut_rows n forms x.1)) (AreRows forms (c ∷ b) rows) (cut_row forms (c ∷ b)) rows e (λ x is more.
    let first = row_back forms (c ∷ b) x all is in
    let parts = AreBytes-append (row_bytes x.0) x.1 (subst AreBytes first.bytes_are all) in
    mapped_back (λ (others : List (List Subfield)). x.0 ∷ others) (AreRows forms (c ∷ b)) (cut_rows n forms x.1) rows more (λ others was.
    let later = rows_back n forms x.1 others parts.1 was in
    record {
      each = (first.is_row, later.each);
      bytes_are = first.bytes_are ∙ ap (λ t. row_bytes x.0 ++ t) later.bytes_are;
    }))
