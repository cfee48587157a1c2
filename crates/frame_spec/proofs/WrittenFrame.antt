-- Where the text of a record stands, the record stands.
use Rattle.std.proofs.Common.{◌≡◌, ◌≤◌, ◌<◌, ℕ, ◌+◌, ◌-◌, ◌*◌, ◌/◌, ◌%◌, ◌^◌, Bool, List, [], ◌∷◌, ◌++◌, length, take, get_or, refl, sym, ap, ◌∙◌, subst, arith}
use Rattle.std.specs.Prelude.{slice_index, map}
use Rattle.std.specs.List.{range_with_len, AllByRecursion}
use Rattle.std.proofs.Math.Nat.{mul-mod_left, mul-div_left}
use Rattle.std.proofs.lemmas.List.{length-append}
use Rattle.std.proofs.lemmas.List.FromFn.{fill_by_all}
use Rattle.std.proofs.lemmas.List.Elements.{All-from_recursion}
use Rattle.frame_spec.specs.RecordFrame.{Field, RecordFrame, IsEntry, AreDigits, bytes_at, decimal_value, length_at, base_at, length_size_at}
use Rattle.frame_spec.specs.RecordFrame.{position_size_at, entry_size_at, count_at, entry_place, field_tag, length_text, position_text, field_length}
use Rattle.frame_spec.specs.RecordFrame.{field_position, field_at}
use Rattle.frame_spec.specs.WrittenRecord.{StandsAt, directory_entries, field_area, digits}
use Rattle.frame_spec.proofs.WrittenDigits.{AreDigits-digits, decimal_value-digits}
use Rattle.frame_spec.proofs.PlacedBytes.{stands_left, stands_right, stands_place, stands_byte, stands_next, stands_within}
use Rattle.frame_spec.proofs.WrittenLeader.{LeaderAt, leader_with, leader_at, length-leader_with}
use Rattle.frame_spec.proofs.WrittenEntries.{IsField, EntryAt, entry_at, length-entries, bytes_in_area, field_in_area}

abbrev pub base_of : ℕ → ℕ → List Field → ℕ
base_of m n fields = 25 + length fields * (4 + m + n)

abbrev pub length_of : ℕ → ℕ → List Field → ℕ
length_of m n fields = base_of m n fields + length (field_area fields)

-- the record of these fields, with m and n digits in its entries
abbrev pub record_text : Bool → ℕ → ℕ → List Field → List ℕ
record_text first m n fields = leader_with first m n (base_of m n fields) (length_of m n fields) ++ (directory_entries m n 0 fields ++ (30 ∷ field_area fields))

-- fields that can be written with m and n digits
pub record AreFields (m n : ℕ) (fields : List Field) : Type 0 where
  pub length_size : (1 ≤ m) × (m ≤ 9)
  pub position_size : (1 ≤ n) × (n ≤ 9)
  pub each : AllByRecursion (IsField m) fields
  pub positions : (k : ℕ) → k < length fields → length (field_area (take k fields)) < 10 ^ n
  pub fits : length_of m n fields ≤ 99999

-- how many bytes are written
pub text_length : (first : Bool) (m n : ℕ) (fields : List Field) → AreFields m n fields → length (record_text first m n fields) ≡ length_of m n fields
text_length first m n fields are =
    let leader : List ℕ = leader_with first m n (base_of m n fields) (length_of m n fields) in
    let directory : List ℕ = directory_entries m n 0 fields in
    length-append leader (directory ++ (30 ∷ field_area fields))
    ∙ omega (
      arith,
      length-leader_with first m n (base_of m n fields) (length_of m n fields),
      length-entries m n 0 fields are.each,
      length-append directory (30 ∷ field_area fields),
    )

-- what an entry says, read by the numbers of the leader
pub record EntrySays (b : List ℕ) (p k position : ℕ) (field : Field) : Type 0 where
  pub tag : field_tag b p k ≡ field.tag
  pub length_digits : AreDigits (length_text b p k)
  pub position_digits : AreDigits (position_text b p k)
  pub size : field_length b p k ≡ length field.bytes
  pub place : field_position b p k ≡ position

entry_says : (b : List ℕ) (p k e m n position : ℕ) (field : Field) → entry_place b p k ≡ e → length_size_at b p ≡ m → position_size_at b p ≡ n
    → length field.bytes < 10 ^ m → position < 10 ^ n → EntryAt b e m n position field → EntrySays b p k position field
entry_says b p k e m n position field place m_is n_is small low at =
    let x : length_text b p k ≡ digits m (length field.bytes) =
    ap (λ i. bytes_at b (i + 4) (length_size_at b p)) place ∙ ap (bytes_at b (e + 4)) m_is ∙ at.length_text in
    let y : position_text b p k ≡ digits n position =
    ap (λ i. bytes_at b (i + 4 + length_size_at b p) (position_size_at b p)) place ∙ ap (λ i. bytes_at b (e + 4 + i) (position_size_at b p)) m_is
    ∙ ap (bytes_at b (e + 4 + m)) n_is ∙ at.position_text in
    record {
      tag = ap (λ i. bytes_at b i 4) place ∙ at.tag;
      length_digits = subst AreDigits (sym x) (AreDigits-digits m (length field.bytes));
      position_digits = subst AreDigits (sym y) (AreDigits-digits n position);
      size = ap decimal_value x ∙ decimal_value-digits m (length field.bytes) small;
      place = ap decimal_value y ∙ decimal_value-digits n position low;
    }

pub record_stands : (b : List ℕ) (p : ℕ) (first : Bool) (m n : ℕ) (fields : List Field) → AreFields m n fields → StandsAt b p (record_text first m n fields)
    → RecordFrame b p first (record { length = length_of m n fields; fields = fields })
record_stands b p first m n fields are h =
    let base : ℕ = base_of m n fields in
    let size : ℕ = length_of m n fields in
    let leader : List ℕ = leader_with first m n base size in
    let directory : List ℕ = directory_entries m n 0 fields in
    let four : length leader ≡ 24 = length-leader_with first m n base size in
    let many : length directory ≡ length fields * (4 + m + n) = length-entries m n 0 fields are.each in
    let in_leader : LeaderAt b p first m n base size = leader_at b p first m n base size (stands_left b p leader (directory ++ (30 ∷ field_area fields)) h) in
    let after_leader : StandsAt b (p + 24) (directory ++ (30 ∷ field_area fields)) =
    stands_place b (p + length leader) (p + 24) (directory ++ (30 ∷ field_area fields)) (ap (λ i. p + i) four)
    (stands_right b p leader (directory ++ (30 ∷ field_area fields)) h) in
    let in_directory : StandsAt b (p + 24) directory = stands_left b (p + 24) directory (30 ∷ field_area fields) after_leader in
    let after_directory : StandsAt b (p + 24 + length directory) (30 ∷ field_area fields) =
    stands_right b (p + 24) directory (30 ∷ field_area fields) after_leader in
    let in_area : StandsAt b (p + base) (field_area fields) =
    stands_place b (p + 24 + length directory + 1) (p + base) (field_area fields) (omega (arith, many))
    (stands_next b (p + 24 + length directory) 30 (field_area fields) after_directory) in
    let fits : size ≤ 99999 = are.fits in
    let length_is : length_at b p ≡ size = ap decimal_value in_leader.length_text ∙ decimal_value-digits 5 size (omega arith) in
    let base_is : base_at b p ≡ base = ap decimal_value in_leader.base_text ∙ decimal_value-digits 5 base (omega arith) in
    let m_is : length_size_at b p ≡ m = ap (λ c. c - 48) in_leader.length_size ∙ omega arith in
    let n_is : position_size_at b p ≡ n = ap (λ c. c - 48) in_leader.position_size ∙ omega arith in
    let entry_is : entry_size_at b p ≡ 4 + m + n = ap (λ i. 4 + i + position_size_at b p) m_is ∙ ap (λ i. 4 + m + i) n_is in
    let room_is : base_at b p - 25 ≡ length fields * (4 + m + n) = omega (arith, base_is) in
    let count_is : count_at b p ≡ length fields = ap (λ i. i / entry_size_at b p) room_is ∙ ap (λ i. length fields * (4 + m + n) / i) entry_is
    ∙ mul-div_left (length fields) (omega arith) in
    let rest_is : (base_at b p - 25) % entry_size_at b p ≡ 0 =
    ap (λ i. i % entry_size_at b p) room_is ∙ ap (λ i. length fields * (4 + m + n) % i) entry_is ∙ mul-mod_left (length fields) (4 + m + n) in
    let closes : slice_index b (p + 24 + length directory) ≡ 30 = stands_byte b (p + 24 + length directory) 30 (field_area fields) after_directory in
    let end : p + base_at b p - 1 ≡ p + 24 + length directory = omega (arith, base_is, many) in
    let says : (k : ℕ) (d : Field) → k < length fields → EntrySays b p k (length (field_area (take k fields))) (get_or fields k d) = λ k d below.
    let at : EntryAt b (p + 24 + k * (4 + m + n)) m n (0 + length (field_area (take k fields))) (get_or fields k d) =
    entry_at b (p + 24) m n 0 fields k d are.each below in_directory in
    let low : 0 + length (field_area (take k fields)) ≡ length (field_area (take k fields)) = omega arith in
    let field : IsField m (get_or fields k d) = All-from_recursion (IsField m) fields are.each k d below in
    entry_says b p k (p + 24 + k * (4 + m + n)) m n (length (field_area (take k fields))) (get_or fields k d)
    (ap (λ i. p + 24 + k * i) entry_is) m_is n_is field.fits (are.positions k below)
    (subst (λ (i : ℕ). EntryAt b (p + 24 + k * (4 + m + n)) m n i (get_or fields k d)) low at) in
    let entry : (k : ℕ) → k < count_at b p → IsEntry b p k = λ k below.
    let d : Field = record { tag = []; bytes = [] } in
    let in_fields : k < length fields = omega (arith, count_is) in
    let said : EntrySays b p k (length (field_area (take k fields))) (get_or fields k d) = says k d in_fields in
    let some : 0 < length (get_or fields k d).bytes = (All-from_recursion (IsField m) fields are.each k d in_fields).some in
    record {
      length_digits = said.length_digits;
      position_digits = said.position_digits;
      not_empty = omega (arith, said.size, some);
      within = omega (arith, said.size, said.place, base_is, length_is, field_in_area fields k d in_fields);
    } in
    let field_is : (k : ℕ) → k < length fields → get_or fields k (record { tag = []; bytes = [] }) ≡ field_at b p k = λ k below.
    let d : Field = record { tag = []; bytes = [] } in
    let said : EntrySays b p k (length (field_area (take k fields))) (get_or fields k d) = says k d below in
    let place : p + base_at b p + field_position b p k ≡ p + base + length (field_area (take k fields)) = omega (arith, said.place, base_is) in
    let there = bytes_in_area b (p + base) fields k d below in_area in
    let bytes : bytes_at b (p + base_at b p + field_position b p k) (field_length b p k) ≡ (get_or fields k d).bytes =
    ap (λ i. bytes_at b i (field_length b p k)) place ∙ ap (bytes_at b (p + base + length (field_area (take k fields)))) said.size ∙ there in
    sym (ap (λ (t : List ℕ). record { tag = t; bytes = bytes_at b (p + base_at b p + field_position b p k) (field_length b p k) }) said.tag
    ∙ ap (λ (x : List ℕ). record { tag = (get_or fields k d).tag; bytes = x }) bytes) in
    let whole : length (leader ++ (directory ++ (30 ∷ field_area fields))) ≡ size = text_length first m n fields are in
    record {
      leader_fits = omega (arith, four, stands_within b p leader (omega (arith, four)) (stands_left b p leader (directory ++ (30 ∷ field_area fields)) h));
      leader = record {
        length_digits = subst AreDigits (sym in_leader.length_text) (AreDigits-digits 5 size);
        kind = in_leader.kind;
        base_digits = subst AreDigits (sym in_leader.base_text) (AreDigits-digits 5 base);
        length_size = record { low = omega (arith, in_leader.length_size, are.length_size); high = omega (arith, in_leader.length_size, are.length_size) };
        position_size = record {
          low = omega (arith, in_leader.position_size, are.position_size);
          high =
              omega (arith, in_leader.position_size, are.position_size);
        };
        tag_size = in_leader.tag_size;
        base_above = omega (arith, base_is);
        base_within = omega (arith, base_is, length_is);
      };
      fits = omega (arith, length_is, whole, stands_within b p (leader ++ (directory ++ (30 ∷ field_area fields))) (omega (arith, whole)) h);
      directory = record { closed = ap (slice_index b) end ∙ closes; whole = rest_is; entries = entry };
      length_is = sym length_is;
      fields_are = fill_by_all (field_at b p) fields (length fields) (record { tag = []; bytes = [] }) refl field_is
          ∙ ap (λ i. map (field_at b p) (range_with_len 0 i)) (sym count_is);
    }
