-- The cell of a file grows record by record, and can be written at each.
use Rattle.std.proofs.Common.{◌≡◌, ◌≤◌, ℕ, ◌+◌, ◌==◌, ◌&&◌, ◌||◌, Bool, true, false, List, [], ◌∷◌, ◌++◌, length, map, leb, None, Result, Ok, Err, refl, sym}
use Rattle.std.proofs.Common.{ap, subst, ◌∙◌, arith, length-append}
use Rattle.std.specs.List.{list_all, list_any, AllByRecursion, IsDistinct}
use Rattle.std.specs.List.Sorted.{IsPermutation}
use Rattle.std.specs.Result.{result_map_both}
use Rattle.std.proofs.lemmas.Bool.{leb-true, ltb-true, le-ltb}
use Rattle.std.proofs.lemmas.Bool.Decides.{nat_tests}
use Rattle.std.proofs.lemmas.List.Elements.{All-nil, All-push, All-append}
use Rattle.std.proofs.lemmas.List.Sorted.{All-permutation, IsPermutation-map, IsPermutation-middle, IsPermutation-sym}
use Rattle.std.proofs.lemmas.Map.Keys.{IsDistinct-IsPermutation, IsDistinct-cons}
use Rattle.frame_spec.specs.RecordFrame.{Field, FrameView}
use Rattle.frame_spec.specs.WrittenRecord.{record_length}
use Rattle.s57_types.specs.Fitness.{is_fit_head, unfitness}
use Rattle.s57_types.specs.FieldRows.{dsid_row, dspm_row}
use Rattle.s57_types.specs.RecordFields.{written_length, length_limit}
use Rattle.s57_types.specs.Subfield.{is_plain, row_bytes, field_terminator}
use Rattle.s57_types.specs.declared.cell.Cell.{Cell}
use Rattle.s57_types.specs.declared.fault.CellFault.{CellFault}
use Rattle.s57_types.specs.declared.field.Dsid.{Dsid}
use Rattle.s57_types.specs.declared.field.Dssi.{Dssi}
use Rattle.s57_types.specs.declared.field.Dspm.{Dspm}
use Rattle.s57_types.specs.declared.head.Head.{Head}
use Rattle.s57_types.specs.declared.name.Kind.{Kind}
use Rattle.s57_types.specs.declared.name.Kind.TheVariants.{Vi, Vc, Ve, Fe, Head as HeadKind}
use Rattle.s57_types.specs.declared.name.RecName.{RecName}
use Rattle.s57_types.specs.declared.record.Rec.{Rec}
use Rattle.field_spec.specs.Contents.{dsid_content, dssi_content, dspm_content}
use Rattle.cell_spec.specs.Lookup.{all_records, is_named, name_of}
use Rattle.cell_spec.specs.Names.{kind_rank, same_name}
use Rattle.cell_spec.specs.Writable.{IsWritable, AreFit, AreOfKind, HaveDistinctNames, record_limit}
use Rattle.file_spec.specs.CellRecords.{empty_cell, head_with, with_record, with_record_of_kind}
use Rattle.file_spec.specs.DecodedCell.{decoded_cell, decoded_records, general_information, geographic_reference, is_general_information}
use Rattle.file_spec.specs.DecodedCell.{is_geographic_reference, fits_general_information, fits_geographic_reference, record_behind, said_by, said_by_next}
use Rattle.file_spec.specs.DecodedCell.{with_following}
use Rattle.file_spec.specs.FileRecords.{FileRecord, file_records}
use Rattle.file_spec.specs.RecordFaults.{◌>>=◌, ◌>>◌, demand, fault_at, of_frame}
use Rattle.file_spec.specs.RecordReading.{record_type, fields_fault, required}
use Rattle.file_spec.specs.declared.fault.RecordFault.{RecordFault}
use Rattle.file_spec.specs.declared.fault.RecordFault.TheVariants.{HeadOrder, NotBase, NotChainNode, TooLong}
use Rattle.file_spec.specs.declared.tag.FieldTag.TheVariants as tags
use Rattle.file_spec.specs.declared.tag.RecordType.{RecordType}
use Rattle.file_spec.specs.declared.tag.RecordType.TheVariants as types
use Rattle.file_spec.proofs.GrownCell.{stands}
use Rattle.decode_laws.proofs.Contents.{mapped_ok, dsid_is_plain, dspm_is_plain, Levels, dssi_has_levels}
use Rattle.decode_laws.proofs.Records.{step, passed, demanded, required_is, Follows, behind_follows}

-- ---- the head
record IsGeneral (d : Dsid) (s : Dssi) : Type 0 where
  plain : list_all is_plain (dsid_row d) ≡ true
  levels : Levels s
  short : fits_general_information d s ≡ true

abbrev judged_general : Dsid → Dssi → Result (Dsid × Dssi) RecordFault
judged_general d s = demand (d.expp == 1) NotBase >> (demand (s.dstr == 2) NotChainNode >> (demand (fits_general_information d s) TooLong >> Ok (d, s)))

abbrev with_dsid : List Field → Dsid → Result (Dsid × Dssi) RecordFault
with_dsid fields d = required tags.Dssi dssi_content fields >>= judged_general d

abbrev of_general_type : List Field → RecordType → Result (Dsid × Dssi) RecordFault
of_general_type fields type = demand (is_general_information type) HeadOrder >>
    (fields_fault 0 types.GeneralInformation [] fields >> (required tags.Dsid dsid_content fields >>= with_dsid fields))

-- the fields that the two parts of the first head record were read from
pub record GeneralSaid (fields : List Field) (x : Dsid × Dssi) : Type 0 where
  pub dsid : required tags.Dsid dsid_content fields ≡ Ok x.0
  pub dssi : required tags.Dssi dssi_content fields ≡ Ok x.1
  pub short : fits_general_information x.0 x.1 ≡ true

pub general_said : (fields : List Field) (x : Dsid × Dssi) → general_information fields ≡ Ok x → GeneralSaid fields x
unfolding general_information
general_said fields x is =
    let type = step (record_type fields) (of_general_type fields) x is in
    let right = demanded (is_general_information type.0) HeadOrder
    (fields_fault 0 types.GeneralInformation [] fields >> (required tags.Dsid dsid_content fields >>= with_dsid fields)) x type.2 in
    let read = passed (fields_fault 0 types.GeneralInformation [] fields) (required tags.Dsid dsid_content fields >>= with_dsid fields) x right.1 in
    let d = step (required tags.Dsid dsid_content fields) (with_dsid fields) x read.1 in
    let s = step (required tags.Dssi dssi_content fields) (judged_general d.0) x d.2 in
    let base = demanded (d.0.expp == 1) NotBase (demand (s.0.dstr == 2) NotChainNode >>
    (demand (fits_general_information d.0 s.0) TooLong >> Ok (d.0, s.0))) x s.2 in
    let chain = demanded (s.0.dstr == 2) NotChainNode (demand (fits_general_information d.0 s.0) TooLong >> Ok (d.0, s.0)) x base.1 in
    let short = demanded (fits_general_information d.0 s.0) TooLong (Ok (d.0, s.0)) x chain.1 in
    let same : (d.0, s.0) ≡ x = cc in
    subst (GeneralSaid fields) same (record { dsid = d.1; dssi = s.1; short = short.0 })

general_is : (fields : List Field) (x : Dsid × Dssi) → general_information fields ≡ Ok x → IsGeneral x.0 x.1
general_is fields x is =
    let said = general_said fields x is in
    let dsid = required_is tags.Dsid dsid_content fields x.0 said.dsid in
    let dssi = required_is tags.Dssi dssi_content fields x.1 said.dssi in
    record { plain = dsid_is_plain dsid.0 x.0 dsid.1; levels = dssi_has_levels dssi.0 x.1 dssi.1; short = said.short }

record IsGeographic (p : Dspm) : Type 0 where
  plain : list_all is_plain (dspm_row p) ≡ true
  short : fits_geographic_reference p ≡ true

abbrev judged_geographic : Dspm → Result Dspm RecordFault
judged_geographic p = demand (fits_geographic_reference p) TooLong >> Ok p

abbrev of_geographic_type : List Field → RecordType → Result Dspm RecordFault
of_geographic_type fields type = demand (is_geographic_reference type) HeadOrder >>
    (fields_fault 0 types.GeographicReference [] fields >> (required tags.Dspm dspm_content fields >>= judged_geographic))

-- the field that the second head record was read from
pub record GeographicSaid (fields : List Field) (x : Dspm) : Type 0 where
  pub dspm : required tags.Dspm dspm_content fields ≡ Ok x
  pub short : fits_geographic_reference x ≡ true

pub geographic_said : (fields : List Field) (x : Dspm) → geographic_reference fields ≡ Ok x → GeographicSaid fields x
unfolding geographic_reference
geographic_said fields x is =
    let type = step (record_type fields) (of_geographic_type fields) x is in
    let right = demanded (is_geographic_reference type.0) HeadOrder
    (fields_fault 0 types.GeographicReference [] fields >> (required tags.Dspm dspm_content fields >>= judged_geographic)) x type.2 in
    let read = passed (fields_fault 0 types.GeographicReference [] fields) (required tags.Dspm dspm_content fields >>= judged_geographic) x right.1 in
    let p = step (required tags.Dspm dspm_content fields) judged_geographic x read.1 in
    let short = demanded (fits_geographic_reference p.0) TooLong (Ok p.0) x p.2 in
    let same : p.0 ≡ x = cc in
    subst (GeographicSaid fields) same (record { dspm = p.1; short = short.0 })

geographic_is : (fields : List Field) (x : Dspm) → geographic_reference fields ≡ Ok x → IsGeographic x
geographic_is fields x is =
    let said = geographic_said fields x is in
    let dspm = required_is tags.Dspm dspm_content fields x said.dspm in
    record { plain = dspm_is_plain dspm.0 x dspm.1; short = said.short }

six : (a b c d e f : Bool) → a ≡ true → b ≡ true → c ≡ true → d ≡ true → e ≡ true → f ≡ true → (a && b && c && d && e && f) ≡ true
six a b c d e f p q r s t u = rw (p, q, r, s, t, u) refl

-- the lengths of DSID and DSSI don't depend on their numbers
general_fits : (d : Dsid) (s : Dssi) → Levels s → fits_general_information d s ≡ true
    → leb (record_length (3 ∷ length (row_bytes (dsid_row d) ++ (field_terminator ∷ [])) ∷ 36 ∷ [])) length_limit ≡ true
general_fits d s levels short = subst (λ n. leb (record_length (3 ∷ length (row_bytes (dsid_row d) ++ (field_terminator ∷ [])) ∷ n ∷ []))
    length_limit ≡ true) levels.length_is short

head_is_fit : (d : Dsid) (s : Dssi) (p : Dspm) → IsGeneral d s → IsGeographic p → is_fit_head (head_with d s p) ≡ true
unfolding is_fit_head
head_is_fit d s p general geographic = six _ _ _ _ _ _ general.levels.attributes general.levels.nationals general.plain geographic.plain
    (general_fits d s general.levels general.short) geographic.short

-- ---- one record more
names_flip : (n m : RecName) → same_name n m ≡ same_name m n
names_flip n m = ap (λ b. b && (n.id == m.id)) (flip (kind_rank n.kind) (kind_rank m.kind))
    ∙ ap (λ b. (kind_rank m.kind == kind_rank n.kind) && b) (flip n.id m.id)
  where
    flip : (x y : ℕ) → (x == y) ≡ (y == x)
    flip x y = grind (arith, nat_tests)

none_named : (n : RecName) (rs : List Rec) → list_any (is_named n) rs ≡ false → AllByRecursion (λ m. same_name n m ≡ false) (map name_of rs)
none_named n [] h = tt
none_named n (r ∷ rs) h = (
  neither (same_name n (name_of r)) (list_any (is_named n) rs) h,
  none_named n rs (nor (same_name n (name_of r)) (list_any (is_named n) rs) h),
)
  where
    neither : (a b : Bool) → (a || b) ≡ false → a ≡ false
    neither true b h = absurd cc
    neither false b h = refl

    nor : (a b : Bool) → (a || b) ≡ false → b ≡ false
    nor true b h = absurd cc
    nor false b h = h

no_fault : (c : Cell) (r : Rec) → Follows c r → unfitness c.head.nall r ≡ None
unfolding unfitness
no_fault c r f = rw (f.good.names, f.good.texts, le-ltb length_limit (written_length c.head.nall r) (leb-true _ _ f.short)) refl

module _ (kind : Kind) (listed : (kind_rank kind == kind_rank HeadKind) ≡ false) (r : Rec) (c : Cell) (w : IsWritable c) (f : Follows c r) where
  moved : IsPermutation (all_records (with_record_of_kind kind r c)) (r ∷ all_records c)
  moved = let s = stands kind r c listed in
      subst (λ xs. IsPermutation xs (r ∷ all_records c)) (sym s.with)
      (subst (λ xs. IsPermutation (s.before ++ (r ∷ s.behind)) (r ∷ xs)) (sym s.without) (IsPermutation-middle s.before r s.behind))

  all_fit : AreFit c.head.nall (all_records (with_record_of_kind kind r c))
  all_fit = let P : Rec → Type 0 = λ x. unfitness c.head.nall x ≡ None in
      All-permutation P (r ∷ all_records c) (all_records (with_record_of_kind kind r c))
      (IsPermutation-sym (all_records (with_record_of_kind kind r c)) (r ∷ all_records c) moved)
      (All-append P (r ∷ []) (all_records c) (All-push P [] r (All-nil P) (no_fault c r f)) w.records_fit)

  distinct : HaveDistinctNames (all_records (with_record_of_kind kind r c))
  distinct =
      IsDistinct-IsPermutation same_name names_flip (name_of r ∷ map name_of (all_records c)) (map name_of (all_records (with_record_of_kind kind r c)))
      (IsPermutation-map name_of (r ∷ all_records c) (all_records (with_record_of_kind kind r c))
      (IsPermutation-sym (all_records (with_record_of_kind kind r c)) (r ∷ all_records c) moved))
      (IsDistinct-cons same_name (name_of r) (map name_of (all_records c)) (none_named (name_of r) (all_records c) f.new) w.names_distinct)

  enough_room : length (all_records (with_record_of_kind kind r c)) ≤ record_limit
  enough_room = let s = stands kind r c listed in
      let new = ap length s.with ∙ length-append s.before (r ∷ s.behind) in
      let old = ap length s.without ∙ length-append s.before s.behind in
      let below = ltb-true (length (all_records c)) record_limit f.room in
      omega (arith, new, old, below)

writable : {d : Cell} → is_fit_head d.head ≡ true → AreOfKind Vi d.vi → AreOfKind Vc d.vc → AreOfKind Ve d.ve → AreOfKind Fe d.fe
    → AreFit d.head.nall (all_records d) → HaveDistinctNames (all_records d) → length (all_records d) ≤ record_limit → IsWritable d
writable h n c e f r d m =
    record { head_fits = h; isolated_nodes = n; connected_nodes = c; edges = e; features = f; records_fit = r; names_distinct = d; not_too_many = m }

with_kind : (kind : Kind) (r : Rec) (c : Cell) → (name_of r).kind ≡ kind → IsWritable c → Follows c r → IsWritable (with_record_of_kind kind r c)
with_kind Vi r c is w f = writable w.head_fits (All-push (λ x. (name_of x).kind ≡ Vi) c.vi r w.isolated_nodes is) w.connected_nodes w.edges w.features
    (all_fit Vi refl r c w f) (distinct Vi refl r c w f) (enough_room Vi refl r c w f)
with_kind Vc r c is w f = writable w.head_fits w.isolated_nodes (All-push (λ x. (name_of x).kind ≡ Vc) c.vc r w.connected_nodes is) w.edges w.features
    (all_fit Vc refl r c w f) (distinct Vc refl r c w f) (enough_room Vc refl r c w f)
with_kind Ve r c is w f = writable w.head_fits w.isolated_nodes w.connected_nodes (All-push (λ x. (name_of x).kind ≡ Ve) c.ve r w.edges is) w.features
    (all_fit Ve refl r c w f) (distinct Ve refl r c w f) (enough_room Ve refl r c w f)
with_kind Fe r c is w f = writable w.head_fits w.isolated_nodes w.connected_nodes w.edges (All-push (λ x. (name_of x).kind ≡ Fe) c.fe r w.features is)
    (all_fit Fe refl r c w f) (distinct Fe refl r c w f) (enough_room Fe refl r c w f)
with_kind HeadKind r c is w f = w

-- ---- the file
module _ {X E G : Type 0} where
  pub unplaced : (f : E → G) (r : Result X E) (x : X) → result_map_both (λ y. y) f r ≡ Ok x → r ≡ Ok x
  unplaced f (Ok y) x is = cc
  unplaced f (Err e) x is = absurd cc

said_is : {X : Type 0} (number : ℕ) (meaning : List Field → Result X RecordFault) (r : FileRecord) (x : X) → said_by number meaning r ≡ Ok x
    → (fields : List Field) × (meaning fields ≡ Ok x)
said_is number meaning r x is =
    let found = step (result_map_both (λ (frame : FrameView). frame.fields) of_frame r.found) meaning x (unplaced (fault_at number r.offset) _ x is) in
    (found.0, found.2)

next_is : {X : Type 0} (number end : ℕ) (meaning : List Field → Result X RecordFault) (file : List FileRecord) (x : X × List FileRecord)
    → said_by_next number end meaning file ≡ Ok x → (fields : List Field) × (meaning fields ≡ Ok x.0)
next_is number end meaning [] x is = absurd cc
next_is number end meaning (r ∷ file) x is =
    let said = mapped_ok (λ y. (y, file)) (said_by number meaning r) x is in
    let same : said.0 ≡ x.0 = ap (λ y. y.0) said.2 in
    let found = said_is number meaning r said.0 said.1 in
    (found.0, found.1 ∙ ap Ok same)

stays_writable : (number : ℕ) (c d : Cell) (file : List FileRecord) → IsWritable c → with_following number c file ≡ Ok d → IsWritable d
unfolding with_following
stays_writable number c d [] w is = let same : c ≡ d = cc in subst IsWritable same w
stays_writable number c d (r ∷ file) w is =
    let said = step (said_by number (record_behind c) r) (λ rec. with_following (number + 1) (with_record rec c) file) d is in
    let found = said_is number (record_behind c) r said.0 said.1 in
    stays_writable (number + 1) (with_record said.0 c) d file (with_kind (name_of said.0).kind said.0 c refl w (behind_follows c found.0 said.0 found.1)) said.2

empty_is_writable : (h : Head) → is_fit_head h ≡ true → IsWritable (empty_cell h)
unfolding IsDistinct
empty_is_writable h fit = record {
  head_fits = fit;
  isolated_nodes = All-nil (λ x. (name_of x).kind ≡ Vi);
  connected_nodes = All-nil (λ x. (name_of x).kind ≡ Vc);
  edges = All-nil (λ x. (name_of x).kind ≡ Ve);
  features = All-nil (λ x. (name_of x).kind ≡ Fe);
  records_fit = All-nil (λ x. unfitness h.nall x ≡ None);
  names_distinct = tt;
  not_too_many = omega arith;
}

abbrev behind_geographic : (Dsid × Dssi) → Dspm × List FileRecord → Result Cell CellFault
behind_geographic g p = with_following 4 (empty_cell (head_with g.0 g.1 p.0)) p.1

abbrev behind_general : ℕ → (Dsid × Dssi) × List FileRecord → Result Cell CellFault
behind_general end g = said_by_next 3 end geographic_reference g.1 >>= behind_geographic g.0

abbrev behind_descriptive : ℕ → List Field × List FileRecord → Result Cell CellFault
behind_descriptive end d = said_by_next 2 end general_information d.1 >>= behind_general end

-- what was read before the records behind the head
pub record DecodedSaid (b : List ℕ) (c : Cell) : Type 0 where
  pub d : List Field × List FileRecord
  pub g : (Dsid × Dssi) × List FileRecord
  pub p : Dspm × List FileRecord
  pub descriptive : said_by_next 1 (length b) Ok (file_records b) ≡ Ok d
  pub general : said_by_next 2 (length b) general_information d.1 ≡ Ok g
  pub geographic : said_by_next 3 (length b) geographic_reference g.1 ≡ Ok p
  pub following : with_following 4 (empty_cell (head_with g.0.0 g.0.1 p.0)) p.1 ≡ Ok c

pub decoded_said : (b : List ℕ) (c : Cell) → decoded_cell b ≡ Ok c → DecodedSaid b c
unfolding decoded_records
decoded_said b c is =
    let end = length b in
    let d = step (said_by_next 1 end Ok (file_records b)) (behind_descriptive end) c is in
    let g = step (said_by_next 2 end general_information d.0.1) (behind_general end) c d.2 in
    let p = step (said_by_next 3 end geographic_reference g.0.1) (behind_geographic g.0.0) c g.2 in
    record { d = d.0; g = g.0; p = p.0; descriptive = d.1; general = g.1; geographic = p.1; following = p.2 }

pub decoded_is_writable : (b : List ℕ) (c : Cell) → decoded_cell b ≡ Ok c → IsWritable c
decoded_is_writable b c is =
    let said = decoded_said b c is in
    let g = said.g.0 in
    let p = said.p.0 in
    let general = next_is 2 (length b) general_information said.d.1 said.g said.general in
    let geographic = next_is 3 (length b) geographic_reference said.g.1 said.p said.geographic in
    let fit = head_is_fit g.0 g.1 p (general_is general.0 g general.1) (geographic_is geographic.0 p geographic.1) in
    stays_writable 4 (empty_cell (head_with g.0 g.1 p)) c said.p.1 (empty_is_writable (head_with g.0 g.1 p) fit) said.following
