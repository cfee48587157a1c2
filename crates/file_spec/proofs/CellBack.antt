-- A cell that was written is read again, where each of its fields is.
use Rattle.std.proofs.Common.{◌≡◌, ◌≤◌, ◌<◌, ℕ, ◌+◌, Bool, true, false, ◌&&◌, ◌||◌, List, [], ◌∷◌, ◌++◌, length, map, None, Result, Ok, refl, sym, ap, ◌∙◌}
use Rattle.std.proofs.Common.{subst, arith, append_assoc}
use Rattle.std.specs.Prelude.{◌==◌}
use Rattle.std.specs.Result.{result_map_both}
use Rattle.std.specs.List.{AllByRecursion, IsDistinct, list_any, enumerate_from}
use Rattle.std.proofs.lemmas.Bool.{le-leb, lt-ltb}
use Rattle.std.proofs.lemmas.Bool.Decides.{Decides-eqb, Decides-like, same_from_decides}
use Rattle.std.proofs.lemmas.List.{length-append, append-nil}
use Rattle.std.proofs.lemmas.List.Elements.{recursion_from_All}
use Rattle.std.proofs.lemmas.List.Folds.{list_any-append}
use Rattle.frame_spec.specs.WrittenRecord.{record_length, field_lengths}
use Rattle.s57_types.specs.Fitness.{unfitness, is_feature_kind}
use Rattle.s57_types.specs.RecordFields.{identification_fields, parameter_fields, record_fields, dsid_of_head, dssi_of_head, dspm_of_head, length_limit}
use Rattle.s57_types.specs.declared.cell.Cell.{Cell}
use Rattle.s57_types.specs.declared.head.Head.{Head}
use Rattle.s57_types.specs.declared.name.Kind.{Kind}
use Rattle.s57_types.specs.declared.name.Kind.TheVariants.{Vi, Vc, Ve, Fe, Head as HeadKind}
use Rattle.s57_types.specs.declared.name.RecName.{RecName}
use Rattle.s57_types.specs.declared.record.Rec.{Rec}
use Rattle.s57_types.specs.declared.record.Rec.TheVariants.{V, F, H}
use Rattle.cell_spec.specs.Lookup.{all_records, name_of, is_named}
use Rattle.cell_spec.specs.Names.{same_name, kind_rank}
use Rattle.cell_spec.specs.Writable.{IsWritable, record_limit}
use Rattle.file_spec.specs.CellRecords.{empty_cell, with_record, with_record_of_kind}
use Rattle.file_spec.specs.DecodedCell.{general_information, geographic_reference, record_behind, with_following, decoded_records}
use Rattle.file_spec.specs.EncodedCell.{encoded_cell, record_counts, record_number}
use Rattle.file_spec.specs.ReadBack.{HeadIsReadBack, RecordIsReadBack, CellIsReadBack}
use Rattle.file_spec.specs.RecordFaults.{◌>>=◌, fault_at}
use Rattle.file_spec.specs.RecordReading.{fields_fault}
use Rattle.file_spec.specs.WrittenFile.{placed_records}
use Rattle.file_spec.specs.declared.fault.RecordFault.{RecordFault}
use Rattle.file_spec.proofs.CellFields.{head_fits, fit_is_found, cell_records_found}
use Rattle.file_spec.proofs.RecordBack.{vector_is_read_back, feature_is_read_back}

-- the head records
general_is_read : (h : Head) (counts : List ℕ) → HeadIsReadBack h counts → record_length (field_lengths (identification_fields 0 h counts)) ≤ length_limit
    → general_information (identification_fields 1 h counts) ≡ Ok (dsid_of_head h, dssi_of_head h counts)
unfolding general_information fields_fault
general_is_read h counts back fits = rw (back.dsid, back.dssi, le-leb _ _ fits) refl

geographic_is_read : (h : Head) (counts : List ℕ) → HeadIsReadBack h counts → record_length (field_lengths (parameter_fields 0 h)) ≤ length_limit
    → geographic_reference (parameter_fields 2 h) ≡ Ok (dspm_of_head h)
unfolding geographic_reference fields_fault
geographic_is_read h counts back fits = rw (back.dspm, le-leb _ _ fits) refl

-- a feature has a feature's name
feature_kind : (kind : Kind) (others : Bool) → (is_feature_kind kind && others) ≡ true → kind ≡ Fe
feature_kind Vi others e = absurd cc
feature_kind Vc others e = absurd cc
feature_kind Ve others e = absurd cc
feature_kind Fe others e = refl
feature_kind HeadKind others e = absurd cc

-- a record behind those of a cell
record_is_read : (c : Cell) (n : ℕ) (r : Rec) → RecordIsReadBack c.head.nall r → unfitness c.head.nall r ≡ None
    → list_any (is_named (name_of r)) (all_records c) ≡ false
    → length (all_records c) < record_limit → record_behind c (record_fields c.head.nall n r) ≡ Ok r
unfolding record_behind
record_is_read c n (V v) back fit new room = rw (vector_is_read_back n v back, new, le-leb _ _ (fit_is_found c.head.nall (V v) fit).short, lt-ltb _ _ room) refl
record_is_read c n (F f) back fit new room =
    rw (
      feature_is_read_back c.head.nall n f (feature_kind f.name.kind _ (fit_is_found c.head.nall (F f) fit).names) back,
      new,
      le-leb _ _ (fit_is_found c.head.nall (F f) fit).short,
      lt-ltb _ _ room,
    ) refl
record_is_read c n (H h) back fit new room = let never : false ≡ true = (fit_is_found c.head.nall (H h) fit).names in absurd cc

-- a cell with one record more
pub or_parts : (a b : Bool) → (a || b) ≡ false → (a ≡ false) × (b ≡ false)
or_parts true b e = absurd cc
or_parts false b e = (refl, e)

none_in : (p : Rec → Bool) (xs ys : List Rec) → list_any p xs ≡ false → list_any p ys ≡ false → list_any p (xs ++ ys) ≡ false
none_in p xs ys first second = list_any-append p xs ys ∙ ap (λ b. b || list_any p ys) first ∙ second

parts_of : (p : Rec → Bool) (xs ys : List Rec) → list_any p (xs ++ ys) ≡ false → (list_any p xs ≡ false) × (list_any p ys ≡ false)
parts_of p xs ys none = or_parts (list_any p xs) (list_any p ys) (sym (list_any-append p xs ys) ∙ none)

none_in_more : (p : Rec → Bool) (kind : Kind) (r : Rec) (c : Cell) → list_any p (all_records c) ≡ false → p r ≡ false
    → list_any p (all_records (with_record_of_kind kind r c)) ≡ false
none_in_more p kind r c none isnt =
    let features = parts_of p (c.vi ++ c.vc ++ c.ve) c.fe none in
    let edges = parts_of p (c.vi ++ c.vc) c.ve features.0 in
    let nodes = parts_of p c.vi c.vc edges.0 in
    let one : list_any p (r ∷ []) ≡ false = rw isnt refl in
    by kind nodes.0 nodes.1 edges.1 features.1 one
  where
    by : (kind : Kind) → list_any p c.vi ≡ false → list_any p c.vc ≡ false → list_any p c.ve ≡ false → list_any p c.fe ≡ false → list_any p (r ∷ []) ≡ false
        → list_any p (all_records (with_record_of_kind kind r c)) ≡ false
    by Vi vi vc ve fe one = none_in p (c.vi ++ (r ∷ []) ++ c.vc ++ c.ve) c.fe
        (none_in p (c.vi ++ (r ∷ []) ++ c.vc) c.ve (none_in p (c.vi ++ (r ∷ [])) c.vc (none_in p c.vi (r ∷ []) vi one) vc) ve) fe
    by Vc vi vc ve fe one = none_in p (c.vi ++ (c.vc ++ (r ∷ [])) ++ c.ve) c.fe
        (none_in p (c.vi ++ (c.vc ++ (r ∷ []))) c.ve (none_in p c.vi (c.vc ++ (r ∷ [])) vi (none_in p c.vc (r ∷ []) vc one)) ve) fe
    by Ve vi vc ve fe one = none_in p (c.vi ++ c.vc ++ (c.ve ++ (r ∷ []))) c.fe
        (none_in p (c.vi ++ c.vc) (c.ve ++ (r ∷ [])) (none_in p c.vi c.vc vi vc) (none_in p c.ve (r ∷ []) ve one)) fe
    by Fe vi vc ve fe one = none_in p (c.vi ++ c.vc ++ c.ve) (c.fe ++ (r ∷ [])) (none_in p (c.vi ++ c.vc) c.ve (none_in p c.vi c.vc vi vc) ve)
        (none_in p c.fe (r ∷ []) fe one)
    by HeadKind vi vc ve fe one = none

-- the head stands in no list
one_more : (kind : Kind) (r : Rec) (c : Cell) → length (all_records (with_record_of_kind kind r c)) ≤ length (all_records c) + 1
one_more Vi r c = simp length-append (omega arith)
one_more Vc r c = simp length-append (omega arith)
one_more Ve r c = simp length-append (omega arith)
one_more Fe r c = simp length-append (omega arith)
one_more HeadKind r c = omega arith

same_head : (kind : Kind) (r : Rec) (c : Cell) → (with_record_of_kind kind r c).head ≡ c.head
same_head Vi r c = refl
same_head Vc r c = refl
same_head Ve r c = refl
same_head Fe r c = refl
same_head HeadKind r c = refl

-- names are one or not from either side
equal_from_either : (a b : ℕ) → (a == b) ≡ (b == a)
equal_from_either a b = same_from_decides (a == b) (b == a) (Decides-eqb a b) (Decides-like (b == a) sym sym (Decides-eqb b a))

same_from_either : (a b : RecName) → same_name a b ≡ same_name b a
same_from_either a b = ap (λ x. x && (a.id == b.id)) (equal_from_either (kind_rank a.kind) (kind_rank b.kind))
    ∙ ap (λ x. (kind_rank b.kind == kind_rank a.kind) && x) (equal_from_either a.id b.id)

-- records whose names are new in a cell
abbrev AreNew : Cell → List Rec → Type 0
AreNew c = AllByRecursion (λ r. list_any (is_named (name_of r)) (all_records c) ≡ false)

still_new : (c : Cell) (r : Rec) (records : List Rec) → AreNew c records → AllByRecursion (λ n. same_name (name_of r) n ≡ false)
    (map name_of records) → AreNew (with_record r c) records
still_new c r [] new others = tt
still_new c r (s ∷ records) new others =
    (none_in_more (is_named (name_of s)) (name_of r).kind r c new.0 (same_from_either (name_of s) (name_of r) ∙ others.0), still_new c r records new.1 others.1)

-- a cell with records taken one after the other
with_all : Cell → List Rec → Cell
with_all c [] = c
with_all c (r ∷ records) = with_all (with_record r c) records

records_are_read : (number first offset nall : ℕ) (c : Cell) (records : List Rec) → c.head.nall ≡ nall
    → AllByRecursion (RecordIsReadBack nall) records → AllByRecursion (λ r. unfitness nall r ≡ None) records
    → AreNew c records → IsDistinct same_name (map name_of records) → length (all_records c) + length records ≤ record_limit
    → with_following number c (placed_records offset (map (λ (p : ℕ × Rec). record_fields nall (record_number p.0) p.1)
    (enumerate_from first records))) ≡ Ok (with_all c records)
unfolding with_following with_all IsDistinct
records_are_read number first offset nall c [] same back fit new distinct room = refl
records_are_read number first offset nall c (r ∷ records) same back fit new distinct room =
    let behind : record_behind c (record_fields nall (record_number first) r) ≡ Ok r =
    subst (λ m. record_behind c (record_fields m (record_number first) r) ≡ Ok r) same
    (record_is_read c (record_number first) r (subst (λ m. RecordIsReadBack m r) (sym same) back.0)
    (subst (λ m. unfitness m r ≡ None) (sym same) fit.0) new.0 (omega (arith, room))) in
    let others = placed_records (offset + record_length (field_lengths (record_fields nall (record_number first) r)))
    (map (λ (p : ℕ × Rec). record_fields nall (record_number p.0) p.1) (enumerate_from (first + 1) records)) in
    let more = one_more (name_of r).kind r c in
    ap (λ (answer : Result Rec RecordFault). result_map_both (λ x. x) (fault_at number offset) answer >>= λ rec. with_following
    (number + 1) (with_record rec c) others) behind
    ∙ records_are_read (number + 1) (first + 1) _ nall (with_record r c) records
    (ap (λ (h : Head). h.nall) (same_head (name_of r).kind r c) ∙ same) back.1 fit.1 (still_new c r records new.1 distinct.0) distinct.1
    (omega (arith, room, more))

-- the lists of a cell, taken one after the other
with_all-append : (c : Cell) (xs ys : List Rec) → with_all c (xs ++ ys) ≡ with_all (with_all c xs) ys
unfolding with_all
with_all-append c [] ys = refl
with_all-append c (x ∷ xs) ys = with_all-append (with_record x c) xs ys

abbrev AreOf : Kind → List Rec → Type 0
AreOf kind = AllByRecursion (λ r. (name_of r).kind ≡ kind)

-- a cell with records behind those of a kind
abbrev grown : Kind → Cell → List Rec → Cell
grown Vi c xs = record c { vi = c.vi ++ xs }
grown Vc c xs = record c { vc = c.vc ++ xs }
grown Ve c xs = record c { ve = c.ve ++ xs }
grown Fe c xs = record c { fe = c.fe ++ xs }
grown HeadKind c xs = c

grown_by_none : (kind : Kind) (c : Cell) → grown kind c [] ≡ c
grown_by_none Vi c = ap (λ (x : List Rec). record c { vi = x }) (append-nil c.vi)
grown_by_none Vc c = ap (λ (x : List Rec). record c { vc = x }) (append-nil c.vc)
grown_by_none Ve c = ap (λ (x : List Rec). record c { ve = x }) (append-nil c.ve)
grown_by_none Fe c = ap (λ (x : List Rec). record c { fe = x }) (append-nil c.fe)
grown_by_none HeadKind c = refl

grown_by_more : (kind : Kind) (c : Cell) (x : Rec) (xs : List Rec) → grown kind (with_record_of_kind kind x c) xs ≡ grown kind c (x ∷ xs)
grown_by_more Vi c x xs = ap (λ (y : List Rec). record c { vi = y }) (append_assoc c.vi (x ∷ []) xs)
grown_by_more Vc c x xs = ap (λ (y : List Rec). record c { vc = y }) (append_assoc c.vc (x ∷ []) xs)
grown_by_more Ve c x xs = ap (λ (y : List Rec). record c { ve = y }) (append_assoc c.ve (x ∷ []) xs)
grown_by_more Fe c x xs = ap (λ (y : List Rec). record c { fe = y }) (append_assoc c.fe (x ∷ []) xs)
grown_by_more HeadKind c x xs = refl

with_kind : (kind : Kind) (c : Cell) (xs : List Rec) → AreOf kind xs → with_all c xs ≡ grown kind c xs
unfolding with_all
with_kind kind c [] are = sym (grown_by_none kind c)
with_kind kind c (x ∷ xs) are = ap (λ (k : Kind). with_all (with_record_of_kind k x c) xs) are.0
    ∙ with_kind kind (with_record_of_kind kind x c) xs are.1 ∙ grown_by_more kind c x xs

whole_cell : (c : Cell) → IsWritable c → with_all (empty_cell c.head) (all_records c) ≡ c
whole_cell c w =
    with_all-append (empty_cell c.head) (c.vi ++ c.vc ++ c.ve) c.fe
    ∙ ap (λ d. with_all d c.fe) (with_all-append (empty_cell c.head) (c.vi ++ c.vc) c.ve)
    ∙ ap (λ d. with_all (with_all d c.ve) c.fe) (with_all-append (empty_cell c.head) c.vi c.vc)
    ∙ ap (λ d. with_all (with_all (with_all d c.vc) c.ve) c.fe) (with_kind Vi (empty_cell c.head) c.vi (recursion_from_All _ c.vi w.isolated_nodes))
    ∙ ap (λ d. with_all (with_all d c.ve) c.fe) (with_kind Vc (record (empty_cell c.head) { vi = c.vi }) c.vc (recursion_from_All _ c.vc w.connected_nodes))
    ∙ ap (λ d. with_all d c.fe) (with_kind Ve (record (empty_cell c.head) { vi = c.vi; vc = c.vc }) c.ve (recursion_from_All _ c.ve w.edges))
    ∙ with_kind Fe (record (empty_cell c.head) { vi = c.vi; vc = c.vc; ve = c.ve }) c.fe (recursion_from_All _ c.fe w.features)

-- in the empty cell all names are new
all_new : (h : Head) (records : List Rec) → AreNew (empty_cell h) records
all_new h [] = tt
all_new h (r ∷ records) = (refl, all_new h records)

pub cell_is_read_back : CellIsReadBack
unfolding decoded_records
cell_is_read_back c w back =
    let fits = head_fits c.head w.head_fits in
    let few = w.not_too_many in
    let records = records_are_read 4 3 _ c.head.nall (empty_cell c.head) (all_records c) refl back.records
    (recursion_from_All _ (all_records c) w.records_fit) (all_new c.head (all_records c)) w.names_distinct (omega (arith, few)) in
    ap (decoded_records (length (encoded_cell c))) (cell_records_found c w)
    ∙ rw (general_is_read c.head (record_counts c) back.head fits.0, geographic_is_read c.head (record_counts c) back.head fits.1)
    (records ∙ ap Ok (whole_cell c w))
