-- What a refusal because of records or the head says of all refusals, and what it says that there is none.
use Rattle.std.proofs.Common.{◌≡◌, ℕ, ◌<◌, ◌≤◌, ◌&&◌, Bool, true, false, List, [], ◌∷◌, length, filter_map, Option, None, Some, is_some, sym, ap, ◌∙◌, refl}
use Rattle.std.proofs.Common.{subst, arith, if◌then◌else◌}
use Rattle.std.specs.Prelude.{nat_lt, not}
use Rattle.std.specs.Bool.{then_some}
use Rattle.std.specs.List.{cons_option, list_any}
use Rattle.std.specs.Option.{option_map_or}
use Rattle.std.proofs.lemmas.Bool.Decides.{nat_tests}
use Rattle.std.proofs.lemmas.Bool.{and_from, and_parts, both_ways}
use Rattle.s57_types.specs.RecordFields.{identification_length, length_limit}
use Rattle.s57_types.specs.declared.head.Head.{Head as CellHead}
use Rattle.s57_types.specs.declared.cell.Cell.{Cell}
use Rattle.s57_types.specs.declared.name.RecName.{RecName}
use Rattle.cell_spec.specs.declared.edit.Edit.{Edit}
use Rattle.cell_spec.specs.declared.edit.Edit.TheVariants.{Add, Set, Del, Head}
use Rattle.cell_spec.specs.Edits.{apply_edits, find_their_records, has_its_record, head_after, is_applicable, is_head_edit, leave_a_long_head}
use Rattle.cell_spec.specs.Lookup.{all_records, listed_record, name_of}
use Rattle.cell_spec.specs.Readable.{WritableCellsAreReadable}
use Rattle.cell_spec.specs.Writable.{IsWritable, record_limit}
use Rattle.rule_spec.specs.Findings.{finding_total}
use Rattle.history_spec.specs.declared.refusal.StateRefusal.{StateRefusal}
use Rattle.history_spec.specs.declared.refusal.StateRefusal.TheVariants.{AddExists, SetMissing, DelMissing, CellFull, FindingsFull, HeadTooLong}
use Rattle.history_spec.specs.Steps.{edit_refusal, finding_limit, first_of, size_refusal, state_refusal}
use Rattle.edit_laws.specs.KeptWritable.{RefusalsAreExact, is_taken}
use Rattle.record_fit.specs.Lengths.{saturated}
use Rattle.edit_sets.specs.FormFault.{IsFormed}
use Rattle.answer_laws.specs.EditedAnswers.{FindTheirRecords}
use Rattle.answer_laws.specs.EditedCells.{FormedEditsFindTheirRecords}
use Rattle.cell_bench.specs.declared.refusal.PlanRefusal.{PlanRefusal}
use Rattle.cell_bench.specs.declared.refusal.PlanRefusal.TheVariants.{State, NoMemory}
use Rattle.cell_bench.specs.Benches.{IsNext, IsPlanRefusal, IsPlanned}
use Rattle.cell_bench.specs.Limits.{IsFull}
use Rattle.cell_bench.specs.Refusals.{IsRecordsRefusal, head_refusal, records_refusal, room_refusal}

-- why the cell that edits leave has too many findings
abbrev pub findings_refusal : Cell → List Edit → Option StateRefusal
findings_refusal c edits = if nat_lt finding_limit (finding_total (apply_edits edits c)) then Some FindingsFull else None

room_first : (c : Cell) (edits : List Edit) → size_refusal c edits ≡ option_map_or Some (room_refusal c edits) (findings_refusal c edits)
room_first c edits = by (nat_lt record_limit records) (leave_a_long_head edits c)
  where
    records : ℕ
    records = length (all_records (apply_edits edits c))

    bytes : ℕ
    bytes = identification_length (head_after edits c.head)

    by : (full long : Bool) → (if full then Some (CellFull records) else (if long then Some (HeadTooLong bytes) else findings_refusal c edits))
        ≡ option_map_or Some (if full then Some (CellFull records) else (if long then Some (HeadTooLong bytes) else None)) (findings_refusal c edits)
    by true long = refl
    by false true = refl
    by false false = refl

twice : (first room last : Option StateRefusal) → option_map_or Some first (option_map_or Some room last) ≡ option_map_or Some
    (option_map_or Some first room) last
twice None room last = refl
twice (Some why) room last = refl

-- of all refusals, those because of the records and the head come first
pub records_first : (c : Cell) (edits : List Edit) → state_refusal c edits ≡ option_map_or Some (records_refusal c edits) (findings_refusal c edits)
records_first c edits =
    ap (λ last. option_map_or Some (first_of (filter_map (edit_refusal c) edits)) last) (room_first c edits)
    ∙ twice (first_of (filter_map (edit_refusal c) edits)) (room_refusal c edits) (findings_refusal c edits)

pub refused_so : (c : Cell) (edits : List Edit) (why : StateRefusal) → records_refusal c edits ≡ Some why → state_refusal c edits ≡ Some why
refused_so c edits why is = records_first c edits ∙ ap (λ first. option_map_or Some first (findings_refusal c edits)) is

pub else_findings : (c : Cell) (edits : List Edit) → records_refusal c edits ≡ None → state_refusal c edits ≡ findings_refusal c edits
else_findings c edits none = records_first c edits ∙ ap (λ first. option_map_or Some first (findings_refusal c edits)) none

pub taken_so : RefusalsAreExact → (c : Cell) (edits : List Edit) → records_refusal c edits ≡ None → is_applicable edits c ≡ true
taken_so exact c edits none = sym (exact c edits) ∙ ap is_taken (else_findings c edits none) ∙ by (nat_lt finding_limit (finding_total (apply_edits edits c)))
  where
    by : (many : Bool) → is_taken (if many then Some FindingsFull else None) ≡ true
    by true = refl
    by false = refl

-- a refusal, if there is one, that isn't because of findings
abbrev IsNotOfFindings : Option StateRefusal → Type 0
IsNotOfFindings None = Unit {0}
IsNotOfFindings (Some why) = is_taken (Some why) ≡ false

when_there : (there : Bool) (why : StateRefusal) → is_taken (Some why) ≡ false → IsNotOfFindings (if there then Some why else None)
when_there true why is = is
when_there false why is = tt

when_missing : (there : Bool) (why : StateRefusal) → is_taken (Some why) ≡ false → IsNotOfFindings (if there then None else Some why)
when_missing true why is = tt
when_missing false why is = is

of_edit : (c : Cell) (edit : Edit) → IsNotOfFindings (edit_refusal c edit)
of_edit c (Add r) = when_there (is_some (listed_record c (name_of r))) (AddExists (name_of r)) refl
of_edit c (Set r) = when_missing (is_some (listed_record c (name_of r))) (SetMissing (name_of r)) refl
of_edit c (Del n) = when_missing (is_some (listed_record c n)) (DelMissing n) refl
of_edit c (Head e) = tt

first_or : (why : Option StateRefusal) (rest : List StateRefusal) → IsNotOfFindings why → IsNotOfFindings (first_of rest)
    → IsNotOfFindings (first_of (cons_option why rest))
first_or None rest one more = more
first_or (Some why) rest one more = one

of_edits : (c : Cell) (edits : List Edit) → IsNotOfFindings (first_of (filter_map (edit_refusal c) edits))
of_edits c [] = tt
of_edits c (edit ∷ edits) = first_or (edit_refusal c edit) (filter_map (edit_refusal c) edits) (of_edit c edit) (of_edits c edits)

of_room : (c : Cell) (edits : List Edit) → IsNotOfFindings (room_refusal c edits)
of_room c edits = by (nat_lt record_limit records) (list_any is_head_edit edits && nat_lt length_limit bytes)
  where
    records : ℕ
    records = length (all_records (apply_edits edits c))

    bytes : ℕ
    bytes = identification_length (head_after edits c.head)

    by : (full long : Bool) → IsNotOfFindings (if full then Some (CellFull records) else (if long then Some (HeadTooLong bytes) else None))
    by true long = refl
    by false long = when_there long (HeadTooLong bytes) refl

of_either : (first last : Option StateRefusal) → IsNotOfFindings first → IsNotOfFindings last → IsNotOfFindings (option_map_or Some first last)
of_either None last one more = more
of_either (Some why) last one more = one

-- a cell that refuses edits because of its records or its head doesn't take them
pub untaken_so : RefusalsAreExact → (c : Cell) (edits : List Edit) (why : StateRefusal) → records_refusal c edits ≡ Some why → is_applicable edits c ≡ false
untaken_so exact c edits why is =
    sym (exact c edits) ∙ ap is_taken (refused_so c edits why is)
    ∙ subst IsNotOfFindings is (of_either (first_of (filter_map (edit_refusal c) edits)) (room_refusal c edits) (of_edits c edits) (of_room c edits))

taken_by : RefusalsAreExact → (c : Cell) (edits : List Edit) (refusal : Option StateRefusal) → records_refusal c edits ≡ refusal
    → is_applicable edits c ≡ true → refusal ≡ None
taken_by exact c edits None is taken = refl
taken_by exact c edits (Some why) is taken = absurd (both_ways (is_applicable edits c) (untaken_so exact c edits why is) taken)

-- one that takes them refuses them because of its findings alone
pub unrefused_when_taken : RefusalsAreExact → (c : Cell) (edits : List Edit) → is_applicable edits c ≡ true → records_refusal c edits ≡ None
unrefused_when_taken exact c edits taken = taken_by exact c edits (records_refusal c edits) refl taken

-- ---- the first of the edits
free_by : (there : Bool) (why : StateRefusal) → (if there then Some why else None) ≡ None → not there ≡ true
free_by true why e = cc
free_by false why e = refl

there_by : (there : Bool) (why : StateRefusal) → (if there then None else Some why) ≡ None → there ≡ true
there_by true why e = refl
there_by false why e = cc

unrefused : (c : Cell) (edit : Edit) → edit_refusal c edit ≡ None → has_its_record c edit ≡ true
unrefused c (Head e) none = refl
unrefused c (Add r) none = free_by (is_some (listed_record c (name_of r))) (AddExists (name_of r)) none
unrefused c (Set r) none = there_by (is_some (listed_record c (name_of r))) (SetMissing (name_of r)) none
unrefused c (Del n) none = there_by (is_some (listed_record c n)) (DelMissing n) none

first_none : (why : Option StateRefusal) (rest : List StateRefusal) → first_of (cons_option why rest) ≡ None → (why ≡ None) × (first_of rest ≡ None)
first_none None rest e = (refl, e)
first_none (Some why) rest e = cc

-- edits of which none is refused find their records
pub found_when_unrefused : (c : Cell) (edits : List Edit) → first_of (filter_map (edit_refusal c) edits) ≡ None → find_their_records edits c ≡ true
found_when_unrefused c [] none = refl
found_when_unrefused c (edit ∷ edits) none =
    let both = first_none (edit_refusal c edit) (filter_map (edit_refusal c) edits) none in
    and_from (has_its_record c edit) (find_their_records edits c) (unrefused c edit both.0) (found_when_unrefused c edits both.1)

-- ---- the head
pub head_stays : (h : CellHead) (edits : List Edit) → list_any is_head_edit edits ≡ false → None ≡ head_refusal h edits
head_stays h edits none = sym (ap (λ b. if b && nat_lt length_limit (identification_length h) then Some (HeadTooLong (identification_length h)) else None) none)

told_when : (long : Bool) (refusal : StateRefusal) → then_some long refusal ≡ (if long then Some refusal else None)
told_when true refusal = refl
told_when false refusal = refl

pub head_judged : (h : CellHead) (edits : List Edit) (bytes : ℕ) → list_any is_head_edit edits ≡ true → bytes ≡ identification_length h
    → then_some (nat_lt length_limit bytes) (HeadTooLong bytes) ≡ head_refusal h edits
head_judged h edits bytes some counted =
    told_when (nat_lt length_limit bytes) (HeadTooLong bytes)
    ∙ ap (λ n. if nat_lt length_limit n then Some (HeadTooLong n) else None) counted
    ∙ sym (ap (λ b. if b && nat_lt length_limit (identification_length h) then Some (HeadTooLong (identification_length h)) else None) some)

pub small_count : (n bytes : ℕ) → bytes ≡ saturated n → bytes < 4294967296 → bytes ≡ n
small_count n bytes is small = omega (arith, is, small)

-- ---- what a plan answers
pub refusal_of_records : (c : Cell) (edits : List Edit) (why : PlanRefusal) → IsRecordsRefusal c edits why → IsPlanRefusal c edits why
refusal_of_records c edits (State refusal) is = refused_so c edits refusal is
refusal_of_records c edits NoMemory is = tt

over_limit : (count : ℕ) → finding_limit < count → (if nat_lt finding_limit count then Some FindingsFull else None) ≡ Some FindingsFull
over_limit count over = let e : nat_lt finding_limit count ≡ true = grind (arith, nat_tests) in ap (λ b. if b then Some FindingsFull else None) e

within_limit : (count : ℕ) → count ≤ finding_limit → (if nat_lt finding_limit count then Some FindingsFull else None) ≡ None
within_limit count within = let e : nat_lt finding_limit count ≡ false = grind (arith, nat_tests) in ap (λ b. if b then Some FindingsFull else None) e

pub refusal_of_findings : (c : Cell) (edits : List Edit) → records_refusal c edits ≡ None → (why : PlanRefusal)
    → IsFull (finding_total (apply_edits edits c)) why → IsPlanRefusal c edits why
refusal_of_findings c edits none (State refusal) is = else_findings c edits none ∙ over_limit (finding_total (apply_edits edits c)) is.1 ∙ ap Some (sym is.0)
refusal_of_findings c edits none NoMemory is = tt

pub planned_of : (c : Cell) (edits : List Edit) (next : Cell) → records_refusal c edits ≡ None → IsNext (apply_edits edits c) next → IsPlanned c edits next
planned_of c edits next none is = record {
  cell_is = is.cell_is;
  none = else_findings c edits none ∙ within_limit (finding_total (apply_edits edits c)) is.few;
}

-- fewer findings that are too many
pub full_of_more : (few more : ℕ) (why : PlanRefusal) → few ≤ more → IsFull few why → IsFull more why
full_of_more few more (State refusal) within is = (is.0, omega (arith, within, is.1))
full_of_more few more NoMemory within is = tt

-- edits of an edit set at a writable cell's level that find their records
pub finds : WritableCellsAreReadable → FormedEditsFindTheirRecords → (c : Cell) (edits : List Edit) (guards : List RecName) (nall : ℕ) → IsWritable c
    → IsFormed nall edits guards → nall ≡ c.head.nall → find_their_records edits c ≡ true → FindTheirRecords edits c
finds readable formed c edits guards nall w form level found = formed c edits guards (readable c w) (subst (λ n. IsFormed n edits guards) level form) found

-- so do those that the cell takes, also in the cell that a bench is kept as
pub finds_inside : WritableCellsAreReadable → FormedEditsFindTheirRecords → (c d : Cell) (edits : List Edit) (guards : List RecName) (nall : ℕ) → d ≡ c
    → IsWritable d → IsFormed nall edits guards → nall ≡ c.head.nall → is_applicable edits c ≡ true → FindTheirRecords edits d
finds_inside readable formed c d edits guards nall is writable form level taken =
    finds readable formed d edits guards nall writable form (level ∙ sym (ap (λ (e : Cell). e.head.nall) is))
    (and_parts (find_their_records edits d) _ (subst (λ (e : Cell). is_applicable edits e ≡ true) (sym is) taken)).0
