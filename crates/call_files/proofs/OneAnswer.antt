-- What an input file asks for is one answer.
use Rattle.std.proofs.Common.{◌≡◌, ◌⊎◌, inl, inr, ℕ, ◌+◌, ◌<◌, ◌≤◌, List, [], length, Result, Ok, Err, sym, ap, ◌∙◌, subst, arith}
use Rattle.std.specs.Prelude.{slice_index_or}
use Rattle.std.proofs.lemmas.Bool.{cases_lt}
use Rattle.std.proofs.lemmas.List.{ext_get_or}
use Rattle.enc_outside.specs.Files.{Files}
use Rattle.script_text.specs.Faults.{IsFirstFault}
use Rattle.script_text.proofs.Readings.{same_readings}
use Rattle.text_spec.specs.declared.command.Command.{Command}
use Rattle.call_files.specs.Inputs.{AndThen, AreScripts, CellIs, FileIs, IsFirstBad, OrderIs, ScriptIn, ScriptIs, ScriptsAre}
use Rattle.call_files.specs.Inputs.{cell_limit, order_limit, script_limit}
use Rattle.report_text.specs.declared.status.Status.{Status}
use Rattle.report_text.specs.declared.status.Status.TheVariants.{Done, Usage, Absent, BadCell, BadScript, ReadFault, WriteFault, TooLarge, NoMemory}
use Rattle.report_text.specs.declared.status.Status.TheVariants.{BadOrder, Stuck, TooManyFindings, BadUpdate, Refused, BadJournal, DiskFault, OpRefused}
use Rattle.report_text.specs.declared.status.Status.TheVariants.{JournalFull}

-- a relation that has one answer at most
abbrev pub IsOne : {A : Type 0} → (A → Type 0) → Type 0
IsOne {A} P = (x y : A) → P x → P y → x ≡ y

pub same_ok : {A : Type 0} (x y : A) → ◌≡◌ {A = Result A Status} (Ok x) (Ok y) → x ≡ y
same_ok x y e = cc

pub ok_not_err : {A : Type 0} (x : A) (status : Status) → ◌≡◌ {A = Result A Status} (Ok x) (Err status) → ⊥
ok_not_err x status e = cc

pub same_err : {A : Type 0} (x y : Status) → ◌≡◌ {A = Result A Status} (Err x) (Err y) → x ≡ y
same_err x y e = cc

pub one_then : {A B : Type 0} (First : Result A Status → Type 0) (Next : A → Result B Status → Type 0) → IsOne First → ((a : A) → IsOne (Next a))
    → IsOne (AndThen First Next)
one_then {A} {B} First Next one next x y (inl p) (inl q) = next q.0 x y (subst (λ a. Next a x) (same_ok p.0 q.0 (one (Ok p.0) (Ok q.0) p.1 q.1)) p.2) q.2
one_then {A} {B} First Next one next x y (inl p) (inr q) = absurd (ok_not_err p.0 q.0 (one (Ok p.0) (Err q.0) p.1 q.1))
one_then {A} {B} First Next one next x y (inr p) (inl q) = absurd (ok_not_err q.0 p.0 (one (Ok q.0) (Err p.0) q.1 p.1))
one_then {A} {B} First Next one next x y (inr p) (inr q) = p.2 ∙ ap (λ (status : Status). Err status)
    (same_err {A = A} p.0 q.0 (one (Err p.0) (Err q.0) p.1 q.1)) ∙ sym q.2

pub one_file : (limit : ℕ) (name : List ℕ) (files : Files) → IsOne (FileIs limit name files)
one_file limit name files x y p q = sym p ∙ q

pub one_cell : (name : List ℕ) (files : Files) → IsOne (CellIs name files)
one_cell name files = one_then (FileIs cell_limit name files) _ (one_file cell_limit name files) (λ bytes x y p q. sym p ∙ q)

pub one_order : (quotas name : List ℕ) (files : Files) → IsOne (OrderIs quotas name files)
one_order quotas name files = one_then (FileIs order_limit name files) _ (one_file order_limit name files) (λ bytes x y p q. sym p ∙ q)

-- ---- scripts
-- the fault at which a script ends a call
pub record IsFaultOf (session : ℕ) (bytes : List ℕ) (status : Status) : Type 0 where
  line : ℕ
  code : ℕ
  fault : IsFirstFault bytes line code
  is : status ≡ BadScript session line code

pub fault_of : (session : ℕ) (bytes : List ℕ) (status : Status) → ScriptIn session bytes (Err status) → IsFaultOf session bytes status
fault_of session bytes Done bad = absurd bad
fault_of session bytes Usage bad = absurd bad
fault_of session bytes (Absent name) bad = absurd bad
fault_of session bytes (BadCell fault) bad = absurd bad
fault_of session bytes (BadScript number line code) bad = record { line = line; code = code; fault = bad.1; is = ap (λ n. BadScript n line code) bad.0 }
fault_of session bytes (ReadFault name) bad = absurd bad
fault_of session bytes WriteFault bad = absurd bad
fault_of session bytes (TooLarge name) bad = absurd bad
fault_of session bytes NoMemory bad = absurd bad
fault_of session bytes (BadOrder place) bad = absurd bad
fault_of session bytes (Stuck desk serial) bad = absurd bad
fault_of session bytes TooManyFindings bad = absurd bad
fault_of session bytes (BadUpdate fault) bad = absurd bad
fault_of session bytes (Refused refusal) bad = absurd bad
fault_of session bytes (BadJournal place) bad = absurd bad
fault_of session bytes DiskFault bad = absurd bad
fault_of session bytes (OpRefused cause) bad = absurd bad
fault_of session bytes (JournalFull count) bad = absurd bad

pub same_commands : (a b : List Command) → ◌≡◌ {A = Result (List Command) (ℕ × ℕ)} (Ok a) (Ok b) → a ≡ b
same_commands a b e = cc

pub no_fault : (a : List Command) (fault : ℕ × ℕ) → ◌≡◌ {A = Result (List Command) (ℕ × ℕ)} (Ok a) (Err fault) → ⊥
no_fault a fault e = cc

pub same_faults : (a b : ℕ × ℕ) → ◌≡◌ {A = Result (List Command) (ℕ × ℕ)} (Err a) (Err b) → a ≡ b
same_faults a b e = cc

pub one_script_in : (session : ℕ) (bytes : List ℕ) → IsOne (ScriptIn session bytes)
one_script_in session bytes (Ok a) (Ok b) p q = ap (λ (commands : List Command). Ok commands) (same_commands a b (same_readings bytes (Ok a) (Ok b) p q))
one_script_in session bytes (Ok a) (Err status) p q = let f = fault_of session bytes status q in
    absurd (no_fault a (f.line, f.code) (same_readings bytes (Ok a) (Err (f.line, f.code)) p f.fault))
one_script_in session bytes (Err status) (Ok b) p q = let f = fault_of session bytes status p in
    absurd (no_fault b (f.line, f.code) (same_readings bytes (Ok b) (Err (f.line, f.code)) q f.fault))
one_script_in session bytes (Err x) (Err y) p q =
    let f = fault_of session bytes x p in
    let g = fault_of session bytes y q in
    let same : ◌≡◌ {A = ℕ × ℕ} (f.line, f.code) (g.line, g.code) =
    same_faults (f.line, f.code) (g.line, g.code) (same_readings bytes (Err (f.line, f.code)) (Err (g.line, g.code)) f.fault g.fault) in
    ap (λ (status : Status). Err status) (f.is ∙ ap (λ (fault : ℕ × ℕ). BadScript session fault.0 fault.1) same ∙ sym g.is)

pub one_script : (session : ℕ) (name : List ℕ) (files : Files) → IsOne (ScriptIs session name files)
one_script session name files = one_then (FileIs script_limit name files) (ScriptIn session) (one_file script_limit name files) (one_script_in session)

module _ (names : List (List ℕ)) (files : Files) where
  -- no script of some good ones is bad
  none_bad : (scripts : List (List Command)) (k : ℕ) (status : Status) → AreScripts names files scripts → k < length scripts
      → ScriptIs (k + 1) (slice_index_or names k []) files (Err status) → ⊥
  none_bad scripts k status good below bad =
      ok_not_err (slice_index_or scripts k []) status (one_script (k + 1) (slice_index_or names k []) files (Ok (slice_index_or scripts k []))
      (Err status) (good.each k below) bad)

  same_scripts : (a b : List (List Command)) → length a ≡ length b → AreScripts names files a → AreScripts names files b → a ≡ b
  same_scripts a b many are others =
      ext_get_or [] a b many (λ k below. same_ok (slice_index_or a k []) (slice_index_or b k [])
      (one_script (k + 1) (slice_index_or names k []) files (Ok (slice_index_or a k [])) (Ok (slice_index_or b k [])) (are.each k below)
      (others.each k (omega (arith, below, many)))))

  first_bads : (x y : Status) (p : IsFirstBad names files x) (q : IsFirstBad names files y) → (length p.before < length q.before)
      ⊎ (length q.before ≤ length p.before)
      → (length q.before < length p.before) ⊎ (length p.before ≤ length q.before) → x ≡ y
  first_bads x y p q (inl less) other = absurd (none_bad q.before (length p.before) x q.good less p.bad)
  first_bads x y p q (inr above) (inl less) = absurd (none_bad p.before (length q.before) y p.good less q.bad)
  first_bads x y p q (inr above) (inr below) =
      let many : length p.before ≡ length q.before = omega (arith, above, below) in
      same_err {A = List Command} x y (one_script (length q.before + 1) (slice_index_or names (length q.before) []) files (Err x) (Err y)
      (subst (λ k. ScriptIs (k + 1) (slice_index_or names k []) files (Err x)) many p.bad) q.bad)

  pub one_scripts : IsOne (ScriptsAre names files)
  one_scripts (Ok a) (Ok b) p q = ap (λ (scripts : List (List Command)). Ok scripts) (same_scripts a b (p.0 ∙ sym q.0) p.1 q.1)
  one_scripts (Ok a) (Err y) p q = let many = p.0 in let within = q.within in absurd (none_bad a (length q.before) y p.1 (omega (arith, many, within)) q.bad)
  one_scripts (Err x) (Ok b) p q = let many = q.0 in let within = p.within in absurd (none_bad b (length p.before) x q.1 (omega (arith, many, within)) p.bad)
  one_scripts (Err x) (Err y) p q = ap (λ (status : Status). Err status)
      (first_bads x y p q (cases_lt (length p.before) (length q.before)) (cases_lt (length q.before) (length p.before)))
