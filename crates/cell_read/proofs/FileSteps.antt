-- A cell with the next record of its file, and the records that must be there.
use Rattle.std.proofs.Common.{◌≡◌, ◌≤◌, ◌<◌, ◌+◌, ℕ, Bool, false, not, List, [], length, nat_le, nat_lt, Option, Some, None, Result, Ok, Err, refl, ap, ◌∙◌}
use Rattle.std.proofs.Common.{inl, inr, arith}
use Rattle.std.specs.List.{list_any}
use Rattle.std.specs.Option.{option_or}
use Rattle.std.specs.Prelude.{IfErr}
use Rattle.std.specs.Result.{IsErrAnd}
use Rattle.std.proofs.lemmas.Bool.{lt-ltb, cases_lt}
use Rattle.frame_spec.specs.FrameDecision.{frame_at}
use Rattle.frame_spec.specs.RecordFrame.{Field, FrameView}
use Rattle.frame_spec.specs.declared.fault.FrameFault.{FrameFault}
use Rattle.frame_spec.specs.declared.fault.FrameFault.TheVariants as frames
use Rattle.s57_types.specs.RecordFields.{written_length, length_limit}
use Rattle.s57_types.specs.declared.cell.Cell.{Cell}
use Rattle.s57_types.specs.declared.fault.CellFault.{CellFault}
use Rattle.s57_types.specs.declared.record.Rec.{Rec}
use Rattle.cell_spec.specs.Lookup.{all_records, name_of, is_named}
use Rattle.cell_spec.specs.Writable.{record_limit}
use Rattle.file_spec.specs.CellRecords.{with_record}
use Rattle.file_spec.specs.DecodedCell.{record_behind, record_values, said_by_next, with_following, decoded_records}
use Rattle.file_spec.specs.FileRecords.{FileRecord, records_after, record_then}
use Rattle.file_spec.specs.RecordFaults.{◌>>=◌, ◌>>◌, demand, fault_at, of_frame}
use Rattle.file_spec.specs.RecordReading.{record_type}
use Rattle.file_spec.specs.declared.fault.RecordFault.{RecordFault}
use Rattle.file_spec.specs.declared.fault.RecordFault.TheVariants.{TwiceName, TooLong, TooMany}
use Rattle.file_spec.proofs.RecordSteps.{records_after-next, records_after-end}
use Rattle.cell_read.specs.FileParts.{data_records}
use Rattle.cell_read.specs.Gives.{GivesRecord, GivesCell, GivesNext, IsFault, IsFaultAt, refusal_at}
use Rattle.cell_read.specs.RecordsFrom.{record_said, following_fault}
use Rattle.cell_read.specs.declared.refusal.RecordRefusal.{RecordRefusal}
use Rattle.cell_read.specs.declared.refusal.RecordRefusal.TheVariants.{Fault, NoMemory}
use Rattle.cell_read.specs.declared.refusal.ReadRefusal.{ReadRefusal}

-- steps in another order of brackets
module _ {E A B : Type 0} where
  regrouped : {C : Type 0} (x : Result A E) (f : A → Result B E) (g : B → Result C E) → (x >>= λ a. f a >>= g) ≡ ((x >>= f) >>= g)
  regrouped (Ok a) f g = refl
  regrouped (Err e) f g = refl

  same_steps : (x : Result A E) (f g : A → Result B E) → ((a : A) → f a ≡ g a) → (x >>= f) ≡ (x >>= g)
  same_steps (Ok a) f g same = same a
  same_steps (Err e) f g same = refl

one_fault : {E B : Type 0} (a b d : Option E) (x : Result B E) → (a >> (b >> (d >> x))) ≡ (option_or a (option_or b d) >> x)
one_fault (Some e) b d x = refl
one_fault None (Some e) d x = refl
one_fault None None d x = refl

-- the last three steps of a record
abbrev twice : Cell → Rec → Option RecordFault
twice c r = demand (not (list_any (is_named (name_of r)) (all_records c))) TwiceName

abbrev long : Cell → Rec → Option RecordFault
long c r = demand (nat_le (written_length c.head.nall r) length_limit) TooLong

abbrev many : Cell → Rec → Option RecordFault
many c r = demand (nat_lt (length (all_records c)) record_limit) TooMany

-- a record behind those of a cell is first read by itself
behind_parts : (c : Cell) (fields : List Field) → record_behind c fields ≡ (record_said c.head.nall fields >>= λ r. following_fault c r >> Ok r)
unfolding record_behind
behind_parts c fields =
    regrouped (record_type fields) (record_values c.head.nall fields) (λ r. twice c r >> (long c r >> (many c r >> Ok r)))
    ∙ same_steps (record_said c.head.nall fields) (λ r. twice c r >> (long c r >> (many c r >> Ok r))) (λ r. following_fault c r >> Ok r)
    (λ r. one_fault (twice c r) (long c r) (many c r) (Ok r))

behind_refused : (c : Cell) (fields : List Field) (fault : RecordFault) → record_said c.head.nall fields ≡ Err fault → record_behind c fields ≡ Err fault
behind_refused c fields fault is = behind_parts c fields ∙ ap (λ said. said >>= λ r. following_fault c r >> Ok r) is

behind_said : (c : Cell) (fields : List Field) (r : Rec) → record_said c.head.nall fields ≡ Ok r → record_behind c fields ≡ (following_fault c r >> Ok r)
behind_said c fields r is = behind_parts c fields ∙ ap (λ said. said >>= λ r. following_fault c r >> Ok r) is

-- no record stands at the end of the file
pub frame_at-end : (b : List ℕ) (at : ℕ) (first : Bool) → length b ≤ at → frame_at b at first ≡ Err frames.Short
unfolding frame_at
frame_at-end b at first past = rw (lt-ltb (length b) (at + 24) (omega arith)) refl

pub found_before : (b : List ℕ) (at : ℕ) (first : Bool) (frame : FrameView) → frame_at b at first ≡ Ok frame → at < length b
found_before b at first frame is = elim (cases_lt at (length b)) [
  | inl before ↦ before
  | inr past ↦ let ends : frame_at b at first ≡ Err frames.Short = frame_at-end b at first past in absurd cc
]

-- what is said of the records from a place on, by what stands there
pub read_on : {R : Type 0} (said : List FileRecord → R) (b : List ℕ) (at : ℕ) (first : Bool) (found : Result FrameView FrameFault)
    → at < length b → frame_at b at first ≡ found
    → said (records_after b at first) ≡ said (record_then (λ frame. records_after b (at + frame.length) false) at found)
read_on said b at first found before is =
    ap said (records_after-next b at first before ∙ ap (record_then (λ frame. records_after b (at + frame.length) false) at) is)

-- the same where no record stands: the fault is that of the frame, or tells of the end of the file
pub read_none : {R : Type 0} (said : List FileRecord → R) (fails : ℕ → FrameFault → R) (b : List ℕ) (at : ℕ) (first : Bool) (fault : FrameFault)
    → at ≤ length b → frame_at b at first ≡ Err fault → said [] ≡ fails (length b) frames.Short
    → said (record_then (λ frame. records_after b (at + frame.length) false) at (Err fault)) ≡ fails at fault
    → said (records_after b at first) ≡ fails at fault
read_none said fails b at first fault within is none there = elim (cases_lt at (length b)) [
  | inl before ↦ read_on said b at first (Err fault) before is ∙ there
  | inr past ↦
      let short : frame_at b at first ≡ Err frames.Short = frame_at-end b at first past in
      let same : frames.Short ≡ fault = cc in
      let here : length b ≡ at = omega (arith, past, within) in
      ap said (records_after-end b at first past) ∙ none ∙ ap (λ n. fails n frames.Short) here ∙ ap (λ f. fails at f) same
]

-- at the end of the file
pub following-end : (number : ℕ) (c : Cell) (b : List ℕ) (at : ℕ) → length b ≤ at → with_following number c (records_after b at false) ≡ Ok c
unfolding with_following
following-end number c b at past = ap (with_following number c) (records_after-end b at false past)

-- no record stands there
pub following-frame_fault : {X : Type 0} (number : ℕ) (c : Cell) (b : List ℕ) (at : ℕ) (fault : FrameFault) (r : Result X RecordRefusal)
    → IsErrAnd r (λ e. e ≡ Fault (of_frame fault)) → at < length b → frame_at b at false ≡ Err fault
    → IfErr r (λ e. IsFaultAt number at e (with_following number c (records_after b at false)))
unfolding with_following
following-frame_fault number c b at fault (Ok x) told before is = tt
following-frame_fault number c b at fault (Err e) told before is = rw told (read_on (with_following number c) b at false (Err fault) before is)

-- the record there has a fault
following-fault : (number : ℕ) (c : Cell) (b : List ℕ) (at : ℕ) (frame : FrameView) (fault : RecordFault) → at < length b
    → frame_at b at false ≡ Ok frame → record_behind c frame.fields ≡ Err fault
    → with_following number c (records_after b at false) ≡ Err (fault_at number at fault)
unfolding with_following
following-fault number c b at frame fault before is said = read_on (with_following number c) b at false (Ok frame) before is ∙ (rw said refl)

-- the record there follows
following-next : (number : ℕ) (c : Cell) (b : List ℕ) (at : ℕ) (frame : FrameView) (r : Rec) → at < length b → frame_at b at false ≡ Ok frame
    → record_behind c frame.fields ≡ Ok r
    → with_following number c (records_after b at false) ≡ with_following (number + 1) (with_record r c) (records_after b (at + frame.length) false)
unfolding with_following
following-next number c b at frame r before is said = read_on (with_following number c) b at false (Ok frame) before is ∙ (rw said refl)

-- the record there was refused by itself, was refused behind the others, or was added
pub following-refused : (number : ℕ) (c : Cell) (b : List ℕ) (at : ℕ) (frame : FrameView) (e : RecordRefusal) → at < length b → frame_at b at false ≡ Ok frame
    → GivesRecord {X = Rec} (Err e) (record_said c.head.nall frame.fields) → IsFaultAt number at e (with_following number c (records_after b at false))
following-refused number c b at frame (Fault fault) before is said =
    following-fault number c b at frame fault before is (behind_refused c frame.fields fault said)
following-refused number c b at frame NoMemory before is said = tt

pub following-not_added : (number : ℕ) (c : Cell) (b : List ℕ) (at : ℕ) (frame : FrameView) (r : Rec) (e : RecordRefusal)
    → at < length b → frame_at b at false ≡ Ok frame
    → record_said c.head.nall frame.fields ≡ Ok r → IsFault e (following_fault c r) → IsFaultAt number at e (with_following number c (records_after b at false))
following-not_added number c b at frame r (Fault fault) before is said has =
    following-fault number c b at frame fault before is (behind_said c frame.fields r said ∙ ap (λ found. found >> Ok r) has)
following-not_added number c b at frame r NoMemory before is said has = tt

pub following-added : (number : ℕ) (c : Cell) (b : List ℕ) (at : ℕ) (frame : FrameView) (r : Rec) → at < length b → frame_at b at false ≡ Ok frame
    → record_said c.head.nall frame.fields ≡ Ok r → following_fault c r ≡ None
    → with_following number c (records_after b at false) ≡ with_following (number + 1) (with_record r c) (records_after b (at + frame.length) false)
following-added number c b at frame r before is said none =
    following-next number c b at frame r before is (behind_said c frame.fields r said ∙ ap (λ found. found >> Ok r) none)

module _ {X : Type 0} (number : ℕ) (meaning : List Field → Result X RecordFault) (b : List ℕ) (at : ℕ) (first : Bool) where
  -- the record that must be there has a fault of its frame, or isn't there
  pub next-frame_fault : (fault : FrameFault) (r : RecordRefusal) → r ≡ Fault (of_frame fault) → at ≤ length b → frame_at b at first ≡ Err fault
      → IsFaultAt number at r (said_by_next number (length b) meaning (records_after b at first))
  next-frame_fault fault r refused within is = rw refused
      (read_none (said_by_next number (length b) meaning) (λ n f. Err (fault_at number n (of_frame f))) b at first fault within is refl refl)

  pub next-no_frame : (fault : FrameFault) (r : Result (X × ℕ) RecordRefusal) → IsErrAnd r (λ e. e ≡ Fault (of_frame fault)) → at ≤ length b
      → frame_at b at first ≡ Err fault → GivesNext b first number at meaning r
  next-no_frame fault (Ok x) told within is = absurd told
  next-no_frame fault (Err e) told within is = next-frame_fault fault e told within is

  pub next-refused : (frame : FrameView) (e : RecordRefusal) → frame_at b at first ≡ Ok frame → GivesRecord {X = X} (Err e) (meaning frame.fields)
      → IsFaultAt number at e (said_by_next number (length b) meaning (records_after b at first))
  next-refused frame (Fault fault) is said =
      read_on (said_by_next number (length b) meaning) b at first (Ok frame) (found_before b at first frame is) is ∙ (rw said refl)
  next-refused frame NoMemory is said = tt

  pub next-said : (frame : FrameView) (x : X) → frame_at b at first ≡ Ok frame → meaning frame.fields ≡ Ok x
      → said_by_next number (length b) meaning (records_after b at first) ≡ Ok (x, records_after b (at + frame.length) false)
  next-said frame x is said = read_on (said_by_next number (length b) meaning) b at first (Ok frame) (found_before b at first frame is) is ∙ (rw said refl)

-- a fault of a step is the fault of the whole
pub fault_stays : {X Y : Type 0} (number offset : ℕ) (e : RecordRefusal) (x : Result X CellFault) (f : X → Result Y CellFault)
    → IsFaultAt number offset e x → IsFaultAt number offset e (x >>= f)
fault_stays number offset (Fault fault) x f is = ap (λ r. r >>= f) is
fault_stays number offset NoMemory x f is = tt

pub gives_fault_at : {X : Type 0} (number offset : ℕ) (e : RecordRefusal) (x : Result X CellFault) (r : ReadRefusal)
    → r ≡ refusal_at number offset e → IsFaultAt number offset e x → GivesCell {X = X} (Err r) x
gives_fault_at number offset (Fault fault) x r refused is = rw refused is
gives_fault_at number offset NoMemory x r refused is = rw refused tt

-- behind the descriptive record
pub decoded_parts : (end : ℕ) (file : List FileRecord) → decoded_records end file ≡ (said_by_next 1 end Ok file >>= λ d. data_records end d.1)
unfolding decoded_records
decoded_parts end file = refl
