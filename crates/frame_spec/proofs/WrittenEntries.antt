-- The entries and the field area of a record that was written.
use Rattle.std.proofs.Common.{◌≡◌, ◌≤◌, ◌<◌, ℕ, zero, suc, ◌+◌, ◌*◌, ◌^◌, List, [], ◌∷◌, ◌++◌, length, take, get_or, subst, arith, append_assoc, ◌∙◌}
use Rattle.std.specs.List.{AllByRecursion}
use Rattle.std.proofs.lemmas.List.{length-append}
use Rattle.frame_spec.specs.RecordFrame.{Field, bytes_at}
use Rattle.frame_spec.specs.WrittenRecord.{StandsAt, directory_entries, field_area, digits}
use Rattle.frame_spec.proofs.WrittenDigits.{length-digits}
use Rattle.frame_spec.proofs.PlacedBytes.{stands_left, stands_right, stands_bytes, stands_place}

-- a field that can be written with m digits for its length
pub record IsField (m : ℕ) (field : Field) : Type 0 where
  pub tag : length field.tag ≡ 4
  pub some : 0 < length field.bytes
  pub fits : length field.bytes < 10 ^ m

pub record EntryAt (b : List ℕ) (e m n position : ℕ) (field : Field) : Type 0 where
  pub tag : bytes_at b e 4 ≡ field.tag
  pub length_text : bytes_at b (e + 4) m ≡ digits m (length field.bytes)
  pub position_text : bytes_at b (e + 4 + m) n ≡ digits n position

pub length-entries : (m n position : ℕ) (fields : List Field) → AllByRecursion (IsField m) fields
    → length (directory_entries m n position fields) ≡ length fields * (4 + m + n)
length-entries m n position [] each = omega arith
length-entries m n position (field ∷ fields) each =
    let rest = length-entries m n (position + length field.bytes) fields each.1 in
    let a = length-digits m (length field.bytes) in
    let c = length-digits n position in
    simp length-append (omega (arith, rest, a, c, each.0.tag))

entry_first : (b : List ℕ) (p m n position : ℕ) (field : Field) (rest : List ℕ) → length field.tag ≡ 4
    → StandsAt b p (field.tag ++ (digits m (length field.bytes) ++ (digits n position ++ rest)))
    → EntryAt b p m n position field × StandsAt b (p + (4 + m + n)) rest
entry_first b p m n position field rest four h =
    let x : List ℕ = digits m (length field.bytes) in
    let y : List ℕ = digits n position in
    let h1 = stands_right b p field.tag (x ++ (y ++ rest)) h in
    let h2 = stands_right b (p + length field.tag) x (y ++ rest) h1 in
    let h3 = stands_right b (p + length field.tag + length x) y rest h2 in
    let a : length x ≡ m = length-digits m (length field.bytes) in
    let c : length y ≡ n = length-digits n position in (
      record {
        tag = stands_bytes b p field.tag 4 (stands_left b p field.tag (x ++ (y ++ rest)) h) four;
        length_text = stands_bytes b (p + 4) x m (stands_place b (p + length field.tag) (p + 4) x (omega arith)
            (stands_left b (p + length field.tag) x (y ++ rest) h1)) a;
        position_text = stands_bytes b (p + 4 + m) y n (stands_place b (p + length field.tag + length x) (p + 4 + m) y (omega arith)
            (stands_left b (p + length field.tag + length x) y rest h2)) c;
      },
      stands_place b (p + length field.tag + length x + length y) (p + (4 + m + n)) rest (omega arith) h3,
    )

-- the first entry and the others, as they are written
entries_first : (m n position : ℕ) (field : Field) (fields : List Field) → directory_entries m n position (field ∷ fields)
    ≡ field.tag ++ (digits m (length field.bytes) ++ (digits n position ++ directory_entries m n (position + length field.bytes) fields))
entries_first m n position field fields =
    let x : List ℕ = digits m (length field.bytes) in
    let y : List ℕ = digits n position in
    let rest : List ℕ = directory_entries m n (position + length field.bytes) fields in
    append_assoc (field.tag ++ x) y rest ∙ append_assoc field.tag x (y ++ rest)

pub entry_at : (b : List ℕ) (p m n position : ℕ) (fields : List Field) (k : ℕ) (d : Field) → AllByRecursion (IsField m) fields → k < length fields
    → StandsAt b p (directory_entries m n position fields) → EntryAt b (p + k * (4 + m + n)) m n (position + length (field_area (take k fields)))
    (get_or fields k d)
entry_at b p m n position [] k d each below h = absurd (omega arith)
entry_at b p m n position (field ∷ fields) zero d each below h =
    let one = entry_first b p m n position field (directory_entries m n (position + length field.bytes) fields) each.0.tag
    (subst (StandsAt b p) (entries_first m n position field fields) h) in
    let e : p ≡ p + 0 * (4 + m + n) = omega arith in
    let f : position ≡ position + 0 = omega arith in
    subst (λ (i : ℕ). EntryAt b i m n (position + 0) field) e (subst (λ (i : ℕ). EntryAt b p m n i field) f one.0)
entry_at b p m n position (field ∷ fields) (suc k) d each below h =
    let one = entry_first b p m n position field (directory_entries m n (position + length field.bytes) fields) each.0.tag
    (subst (StandsAt b p) (entries_first m n position field fields) h) in
    let more = entry_at b (p + (4 + m + n)) m n (position + length field.bytes) fields k d each.1 (omega arith) one.1 in
    let e : p + (4 + m + n) + k * (4 + m + n) ≡ p + suc k * (4 + m + n) = omega arith in
    let f : position + length field.bytes + length (field_area (take k fields)) ≡ position + length
    (field_area (take (suc k) (field ∷ fields))) = omega (arith, length-append field.bytes (field_area (take k fields))) in
    subst (λ (i : ℕ). EntryAt b i m n (position + length (field_area (take (suc k) (field ∷ fields)))) (get_or fields k d)) e
    (subst (λ (i : ℕ). EntryAt b (p + (4 + m + n) + k * (4 + m + n)) m n i (get_or fields k d)) f more)

-- the bytes of field k in the area, which ends with it or goes on
pub bytes_in_area : (b : List ℕ) (p : ℕ) (fields : List Field) (k : ℕ) (d : Field) → k < length fields → StandsAt b p (field_area fields)
    → StandsAt b (p + length (field_area (take k fields))) (get_or fields k d).bytes
bytes_in_area b p [] k d below h = absurd (omega arith)
bytes_in_area b p (field ∷ fields) zero d below h = stands_place b p (p + 0) field.bytes (omega arith) (stands_left b p field.bytes (field_area fields) h)
bytes_in_area b p (field ∷ fields) (suc k) d below h =
    stands_place b (p + length field.bytes + length (field_area (take k fields))) (p + length (field_area (take (suc k) (field ∷ fields))))
    (get_or fields k d).bytes
    (omega (arith, length-append field.bytes (field_area (take k fields))))
    (bytes_in_area b (p + length field.bytes) fields k d (omega arith) (stands_right b p field.bytes (field_area fields) h))

-- a field ends in the area
pub field_in_area : (fields : List Field) (k : ℕ) (d : Field) → k < length fields
    → length (field_area (take k fields)) + length (get_or fields k d).bytes ≤ length (field_area fields)
field_in_area [] k d below = absurd (omega arith)
field_in_area (field ∷ fields) zero d below = omega (arith, length-append field.bytes (field_area fields))
field_in_area (field ∷ fields) (suc k) d below =
    omega (arith, field_in_area fields k d (omega arith), length-append field.bytes (field_area fields), length-append field.bytes (field_area (take k fields)))
