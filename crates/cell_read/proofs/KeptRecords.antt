-- What is kept of a record serves as the record does: it has the same faults behind the records of a cell, and is the record
-- where it isn't too long.
use Rattle.std.proofs.Common.{◌≡◌, ◌≤◌, ◌<◌, ◌+◌, ◌*◌, ◌==◌, Bool, ℕ, zero, suc, false, not, nat_le, nat_lt, List, [], ◌∷◌, length, sum, Option, Some, None}
use Rattle.std.proofs.Common.{Result, Ok, Err, refl, sym, ap, ◌∙◌, subst, arith, length-append}
use Rattle.std.specs.List.{flat_map, list_any}
use Rattle.std.specs.Option.{option_or, ok_or}
use Rattle.std.proofs.lemmas.Bool.{lt-leb}
use Rattle.std.proofs.lemmas.List.Sums.{sum_by-cons}
use Rattle.frame_spec.specs.RecordFrame.{Field}
use Rattle.frame_spec.specs.WrittenRecord.{record_length}
use Rattle.s57_types.specs.Subfield.{Subfield, row_bytes}
use Rattle.s57_types.specs.FieldRows.{attribute_row, partner_row, place_row, end_row, plane_row, deep_row}
use Rattle.s57_types.specs.RecordFields.{written_length, length_limit}
use Rattle.s57_types.specs.declared.cell.Cell.{Cell}
use Rattle.s57_types.specs.declared.record.Feature.{Feature}
use Rattle.s57_types.specs.declared.record.Vector.{Vector}
use Rattle.s57_types.specs.declared.record.Rec.{Rec}
use Rattle.s57_types.specs.declared.record.Rec.TheVariants.{V, F}
use Rattle.record_fit.specs.Lengths.{present, rows_length}
use Rattle.record_fit.proofs.PresentFields.{present-some, vector_lengths, feature_lengths}
use Rattle.record_fit.proofs.RowLengths.{partner_row_length}
use Rattle.cell_spec.specs.Lookup.{all_records, name_of, is_named}
use Rattle.cell_spec.specs.Names.{is_of_kind}
use Rattle.cell_spec.specs.Writable.{record_limit}
use Rattle.s57_types.specs.declared.name.Kind.TheVariants.{Head}
use Rattle.s57_types.specs.declared.name.RecName.{RecName}
use Rattle.file_spec.specs.DecodedCell.{vector_record, feature_record}
use Rattle.file_spec.specs.RecordFaults.{◌>>=◌, ◌>>◌, demand}
use Rattle.file_spec.specs.RecordReading.{fields_fault}
use Rattle.file_spec.specs.declared.fault.RecordFault.{RecordFault}
use Rattle.file_spec.specs.declared.fault.RecordFault.TheVariants.{MissingField, NotBase, TwiceName, TooLong, TooMany}
use Rattle.file_spec.specs.declared.tag.RecordType.TheVariants as types
use Rattle.cell_read.specs.Kept.{row_limit, IsKept, all, enough, AreKept}
use Rattle.cell_read.specs.KeptRecords.{IsKeptOf, same, long, IsKeptOfSaid}
use Rattle.cell_read.specs.RecordsFrom.{vector_from, feature_from, record_said, following_fault}
use Rattle.cell_read.specs.ValuesOf.{values_of}
use Rattle.cell_read.specs.declared.values.FieldValues.{FieldValues}
use Rattle.cell_read.proofs.ListedRecords.{read_record_is_listed}
use Rattle.cell_read.proofs.RecordSteps.{vector_is, feature_is}

-- rows of at least 8 bytes
least_bytes : {X : Type 0} (row : X → List Subfield) → ((x : X) → 8 ≤ length (row_bytes (row x))) → (xs : List X)
    → length xs * 8 ≤ length (flat_map (λ y. row_bytes (row y)) xs)
least_bytes row wide [] = omega arith
least_bytes row wide (x ∷ xs) =
    omega (arith, wide x, least_bytes row wide xs, length-append (row_bytes (row x)) (flat_map (λ y. row_bytes (row y)) xs))

least_field : {X : Type 0} (row : X → List Subfield) → ((x : X) → 8 ≤ length (row_bytes (row x))) → (xs : List X) → length xs * 8 ≤ rows_length 0 row xs
least_field row wide [] = omega arith
least_field row wide (x ∷ xs) = omega (arith, least_bytes row wide (x ∷ xs))

-- a record takes the bytes of its fields at least
sum_more : (n : ℕ) (ns : List ℕ) → sum (present (n ∷ ns)) ≡ n + sum (present ns)
sum_more zero ns = omega arith
sum_more (suc n) ns = ap sum (present-some (suc n) ns (omega arith)) ∙ sum_by-cons (λ m. m) (suc n) (present ns)

record_long : (ns : List ℕ) → length_limit < sum ns → nat_le (record_length ns) length_limit ≡ false
record_long ns past = lt-leb (record_length ns) length_limit (omega (arith, past))

four_more : (a b c d : ℕ) (ns : List ℕ) → ns ≡ (a ∷ b ∷ c ∷ d ∷ []) → sum (present ns) ≡ a + b + c + d
four_more a b c d ns is = ap (λ ms. sum (present ms)) is
    ∙ omega (arith, sum_more a (b ∷ c ∷ d ∷ []), sum_more b (c ∷ d ∷ []), sum_more c (d ∷ []), sum_more d [])

-- so many rows make a record too long
vector_long : (nall : ℕ) (v : Vector) → row_limit ≤ length v.ends + length v.plane + length v.deep
    → nat_le (written_length nall (V v)) length_limit ≡ false
vector_long nall v many =
    let attrs = rows_length 0 (attribute_row 0) v.attrs in
    let ends = rows_length 0 end_row v.ends in
    let plane = rows_length 0 plane_row v.plane in
    let deep = rows_length 0 deep_row v.deep in
    let rows : List ℕ = attrs ∷ ends ∷ plane ∷ deep ∷ [] in
    let past : length_limit < sum (present (3 ∷ 9 ∷ rows)) = omega (
      arith,
      many,
      sum_more 3 (9 ∷ rows),
      sum_more 9 rows,
      four_more attrs ends plane deep rows refl,
      least_field end_row (λ e. omega arith) v.ends,
      least_field plane_row (λ p. omega arith) v.plane,
      least_field deep_row (λ p. omega arith) v.deep,
    ) in
    ap (λ ns. nat_le (record_length ns) length_limit) (vector_lengths v) ∙ record_long (present (3 ∷ 9 ∷ rows)) past

feature_long : (nall : ℕ) (f : Feature) → row_limit ≤ length f.partners + length f.places → nat_le (written_length nall (F f)) length_limit ≡ false
feature_long nall f many =
    let attf = rows_length 0 (attribute_row 0) f.attf in
    let natf = rows_length nall (attribute_row nall) f.natf in
    let partners = rows_length 0 partner_row f.partners in
    let places = rows_length 0 place_row f.places in
    let rows : List ℕ = attf ∷ natf ∷ partners ∷ places ∷ [] in
    let past : length_limit < sum (present (3 ∷ 13 ∷ 9 ∷ rows)) = omega (
      arith,
      many,
      sum_more 3 (13 ∷ 9 ∷ rows),
      sum_more 13 (9 ∷ rows),
      sum_more 9 rows,
      four_more attf natf partners places rows refl,
      least_field partner_row (λ p. omega (arith, partner_row_length p)) f.partners,
      least_field place_row (λ p. omega arith) f.places,
    ) in
    ap (λ ns. nat_le (record_length ns) length_limit) (feature_lengths nall f) ∙ record_long (present (3 ∷ 13 ∷ 9 ∷ rows)) past

-- what is kept of a vector or feature, up to a limit that makes it too long, where the rest of it is the same
module _ (limit : ℕ) (far : row_limit ≤ limit) (nall : ℕ) where
  vectors_long : (k v : Vector) → k.name ≡ v.name → limit ≤ length k.ends + length k.plane + length k.deep
      → limit ≤ length v.ends + length v.plane + length v.deep → IsKeptOf nall (V k) (V v)
  vectors_long k v named a b = long named (vector_long nall k (omega (arith, far, a))) (vector_long nall v (omega (arith, far, b)))

  features_long : (k f : Feature) → k.name ≡ f.name → limit ≤ length k.partners + length k.places → limit ≤ length f.partners + length f.places
      → IsKeptOf nall (F k) (F f)
  features_long k f named a b = long named (feature_long nall k (omega (arith, far, a))) (feature_long nall f (omega (arith, far, b)))

  pub kept_vector : (k v : Vector) → record k { ends = v.ends; plane = v.plane; deep = v.deep } ≡ v
      → IsKept limit k.ends v.ends → IsKept limit k.plane v.plane → IsKept limit k.deep v.deep → IsKeptOf nall (V k) (V v)
  kept_vector k v is (all a) (all b) (all c) = same (sym (rw (a, b, c) refl) ∙ ap V is)
  kept_vector k v is (enough a b) plane deep = vectors_long k v (ap (λ (x : Vector). x.name) is) (omega (arith, a)) (omega (arith, b))
  kept_vector k v is (all e) (enough a b) deep = vectors_long k v (ap (λ (x : Vector). x.name) is) (omega (arith, a)) (omega (arith, b))
  kept_vector k v is (all e) (all f) (enough a b) = vectors_long k v (ap (λ (x : Vector). x.name) is) (omega (arith, a)) (omega (arith, b))

  pub kept_feature : (k f : Feature) → record k { partners = f.partners; places = f.places } ≡ f
      → IsKept limit k.partners f.partners → IsKept limit k.places f.places → IsKeptOf nall (F k) (F f)
  kept_feature k f is (all a) (all b) = same (sym (rw (a, b) refl) ∙ ap F is)
  kept_feature k f is (enough a b) places = features_long k f (ap (λ (x : Feature). x.name) is) (omega (arith, a)) (omega (arith, b))
  kept_feature k f is (all e) (enough a b) = features_long k f (ap (λ (x : Feature). x.name) is) (omega (arith, a)) (omega (arith, b))

-- what is made of the values that were kept, and of all of them
abbrev pub IsAlike : ℕ → Result Rec RecordFault → Result Rec RecordFault → Type 0
IsAlike nall (Ok kept) said = IsKeptOfSaid nall kept said
IsAlike nall (Err fault) said = said ≡ Err fault

alike_step : {A : Type 0} (nall : ℕ) (x : Result A RecordFault) (f g : A → Result Rec RecordFault) → ((a : A) → IsAlike nall (f a) (g a))
    → IsAlike nall (x >>= f) (x >>= g)
alike_step nall (Ok a) f g alike = alike a
alike_step nall (Err e) f g alike = refl

alike_check : (nall : ℕ) (fault : Option RecordFault) (kept said : Rec) → IsKeptOf nall kept said → IsAlike nall (fault >> Ok kept) (fault >> Ok said)
alike_check nall None kept said is = is
alike_check nall (Some e) kept said is = refl

vector_alike : (nall : ℕ) (k v : FieldValues) → AreKept k v → IsAlike nall (vector_from k) (vector_from v)
vector_alike nall k v is = subst (λ (u : FieldValues). IsAlike nall (vector_from k) (vector_from u)) is.others
    (alike_step nall (ok_or k.vrid MissingField) _ _
    (λ d. alike_check nall (demand (d.ruin == 1) NotBase) _ _ (kept_vector row_limit (omega arith) nall _ _ refl is.ends is.plane is.deep)))

feature_alike : (nall : ℕ) (k v : FieldValues) → AreKept k v → IsAlike nall (feature_from k) (feature_from v)
feature_alike nall k v is = subst (λ (u : FieldValues). IsAlike nall (feature_from k) (feature_from u)) is.others
    (alike_step nall (ok_or k.frid MissingField) _ _
    (λ d. alike_step nall (ok_or k.foid MissingField) _ _
    (λ l. alike_check nall (demand (d.ruin == 1) NotBase) _ _ (kept_feature row_limit (omega arith) nall _ _ refl is.partners is.places))))

-- a record by the values of its fields that were kept
pub vector_kept : (nall : ℕ) (fields : List Field) (k : FieldValues) (made : Result Rec RecordFault) → AreKept k (values_of 0 fields)
    → fields_fault 0 types.Vector [] fields ≡ None → made ≡ vector_from k → IsAlike nall made (vector_record fields)
vector_kept nall fields k made is good from = rw (from, vector_is fields (values_of 0 fields) refl good) (vector_alike nall k (values_of 0 fields) is)

pub feature_kept : (nall : ℕ) (fields : List Field) (k : FieldValues) (made : Result Rec RecordFault) → AreKept k (values_of nall fields)
    → fields_fault nall types.Feature [] fields ≡ None → made ≡ feature_from k → IsAlike nall made (feature_record nall fields)
feature_kept nall fields k made is good from =
    rw (from, feature_is nall fields (values_of nall fields) refl good) (feature_alike nall k (values_of nall fields) is)

-- the record that is said, of which this one is kept
pub record Kept (nall : ℕ) (kept : Rec) (said : Result Rec RecordFault) : Type 0 where
  pub whole : Rec
  pub is : said ≡ Ok whole
  pub of_it : IsKeptOf nall kept whole

pub kept_of : (nall : ℕ) (kept : Rec) (said : Result Rec RecordFault) → IsKeptOfSaid nall kept said → Kept nall kept said
kept_of nall kept (Ok whole) is = record { whole = whole; is = refl; of_it = is }
kept_of nall kept (Err fault) is = absurd is

pub kept_is_listed : (nall : ℕ) (fields : List Field) (kept : Rec) → IsKeptOfSaid nall kept (record_said nall fields) → is_of_kind Head (name_of kept) ≡ false
kept_is_listed nall fields kept is = let k = kept_of nall kept (record_said nall fields) is in
    by k.of_it (read_record_is_listed nall fields k.whole k.is)
  where
    by : {whole : Rec} → IsKeptOf nall kept whole → is_of_kind Head (name_of whole) ≡ false → is_of_kind Head (name_of kept) ≡ false
    by (same e) listed = ap (λ r. is_of_kind Head (name_of r)) e ∙ listed
    by (long n a b) listed = ap (λ n. is_of_kind Head n) n ∙ listed

-- behind the records of a cell
abbrev fault_with : Cell → RecName → Bool → Option RecordFault
fault_with c n short = option_or (demand (not (list_any (is_named n) (all_records c))) TwiceName)
    (option_or (demand short TooLong) (demand (nat_lt (length (all_records c)) record_limit) TooMany))

pub same_following : (c : Cell) (kept whole : Rec) → IsKeptOf c.head.nall kept whole → following_fault c kept ≡ following_fault c whole
same_following c kept whole (same e) = ap (following_fault c) e
same_following c kept whole (long n a b) = ap (λ name. fault_with c name (nat_le (written_length c.head.nall kept) length_limit)) n
    ∙ ap (fault_with c (name_of whole)) (a ∙ sym b)

never_none : (twice : Option RecordFault) (fault : RecordFault) (others : Option RecordFault) → option_or twice (option_or (Some fault) others) ≡ None → ⊥
never_none None fault others is = absurd cc
never_none (Some e) fault others is = absurd cc

pub whole_following : (c : Cell) (kept whole : Rec) → IsKeptOf c.head.nall kept whole → following_fault c kept ≡ None → kept ≡ whole
whole_following c kept whole (same e) none = e
whole_following c kept whole (long n a b) none = absurd (never_none _ TooLong (demand
    (nat_lt (length (all_records c)) record_limit) TooMany) (sym (ap (fault_with c (name_of kept)) a) ∙ none))
