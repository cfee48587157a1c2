-- What words and files ask for is one answer.
use Rattle.std.proofs.Common.{◌≡◌, inl, inr, ℕ, List, Result, Ok, Err, sym, ap, ◌∙◌, subst}
use Rattle.enc_outside.specs.Files.{Files}
use Rattle.s57_types.specs.declared.cell.Cell.{Cell}
use Rattle.text_spec.specs.declared.command.Command.{Command}
use Rattle.room_laws.specs.Orders.{quotas_of}
use Rattle.call_files.specs.Inputs.{AndThen, CellIs, FileIs, OrderIs, ScriptsAre, cell_limit}
use Rattle.enc_top.specs.Inputs.{AreOneAnswer, OrderedRunIs, OutputIs, RoomIs, RunIs}
use Rattle.call_files.specs.Task.{Task}
use Rattle.enc_top.specs.Operations.{operated}
use Rattle.enc_top.specs.Updates.{updated}
use Rattle.enc_top.specs.Words.{Form, apply_form, check_form, drill_form, edge_form, make_form, no_form, probe_form, replay_form, room_form}
use Rattle.report_text.specs.declared.status.Status.{Status}
use Rattle.call_files.proofs.OneAnswer.{IsOne, ok_not_err, one_cell, one_file, one_order, one_scripts, one_then, same_err, same_ok}

one_ordered_run : (c : Cell) (out order : List ℕ) (commands : List (List Command)) (files : Files) → IsOne (OrderedRunIs c out order commands files)
one_ordered_run c out order commands files = one_then (OrderIs (quotas_of commands) order files) _ (one_order (quotas_of commands) order files)
    (λ sessions x y p q. p ∙ sym q)

one_run : (c : Cell) (out order : List ℕ) (scripts : List (List ℕ)) (files : Files) → IsOne (RunIs c out order scripts files)
one_run c out order scripts files = one_then (ScriptsAre scripts files) _ (one_scripts scripts files) (λ commands. one_ordered_run c out order commands files)

-- two reports, or one and the same refusal
abbrev IsSame : Result Task Status → Result Task Status → Type 0
IsSame (Ok task) (Ok other) = Unit {0}
IsSame answer other = answer ≡ other

same_then : {A : Type 0} (First : Result A Status → Type 0) (Next : A → Result Task Status → Type 0) → IsOne First
    → ((a : A) (x y : Result Task Status) → Next a x → Next a y → IsSame x y)
    → (x y : Result Task Status) → AndThen First Next x → AndThen First Next y → IsSame x y
same_then {A} First Next one next x y (inl p) (inl q) = next q.0 x y (subst (λ a. Next a x) (same_ok p.0 q.0 (one (Ok p.0) (Ok q.0) p.1 q.1)) p.2) q.2
same_then {A} First Next one next x y (inl p) (inr q) = absurd (ok_not_err p.0 q.0 (one (Ok p.0) (Err q.0) p.1 q.1))
same_then {A} First Next one next x y (inr p) (inl q) = absurd (ok_not_err q.0 p.0 (one (Ok q.0) (Err p.0) q.1 p.1))
same_then {A} First Next one next x y (inr p) (inr q) =
    subst (λ (z : Result Task Status). IsSame z y) (sym p.2)
    (subst (λ (z : Result Task Status). IsSame (Err p.0) z) (sym q.2)
    (ap (λ (status : Status). Err status) (same_err {A = A} p.0 q.0 (one (Err p.0) (Err q.0) p.1 q.1))))

both_reports : (x y : Result Task Status) (a b : Task) → x ≡ Ok a → y ≡ Ok b → IsSame x y
both_reports x y a b p q = subst (λ (z : Result Task Status). IsSame z y) (sym p) (subst (λ (z : Result Task Status). IsSame (Ok a) z) (sym q) tt)

as_one : (cell out : List ℕ) (scripts : List (List ℕ)) (x y : Result Task Status) → IsSame x y → AreOneAnswer (room_form cell out scripts) x y
as_one cell out scripts (Ok a) (Ok b) same = tt
as_one cell out scripts (Ok a) (Err y) same = same
as_one cell out scripts (Err x) (Ok b) same = same
as_one cell out scripts (Err x) (Err y) same = same

pub one_output : (form : Form) (files : Files) (answer other : Result Task Status) → OutputIs form files answer → OutputIs form files other
    → AreOneAnswer form answer other
one_output (check_form cell) files = one_then (CellIs cell files) _ (one_cell cell files) (λ c x y p q. p ∙ sym q)
one_output (replay_form cell out order scripts) files = one_then (CellIs cell files) _ (one_cell cell files) (λ c. one_run c out order scripts files)
one_output (room_form cell out scripts) files = λ x y p q.
    as_one cell out scripts x y
    (same_then (CellIs cell files) (λ c. RoomIs c out scripts files) (one_cell cell files)
    (λ c. same_then (ScriptsAre scripts files) _ (one_scripts scripts files) (λ commands a b r t. both_reports a b _ _ r.2 t.2)) x y p q)
one_output (make_form n out) files = λ x y p q. p ∙ sym q
one_output (drill_form n sessions) files = λ x y p q. p ∙ sym q
one_output (edge_form cell out operation) files = one_then (CellIs cell files) _ (one_cell cell files)
    (λ c. one_then (λ left. operated c operation ≡ left) _ (λ x y p q. sym p ∙ q) (λ d x y p q. p ∙ sym q))
one_output (probe_form cell at) files = one_then (CellIs cell files) _ (one_cell cell files) (λ c x y p q. p ∙ sym q)
one_output (apply_form cell out update) files = one_then (CellIs cell files) _ (one_cell cell files)
    (λ c. one_then (FileIs cell_limit update files) _ (one_file cell_limit update files)
    (λ bytes. one_then (λ left. updated c bytes ≡ left) _ (λ x y p q. sym p ∙ q) (λ d x y p q. p ∙ sym q)))
one_output no_form files = λ x y p q. p ∙ sym q

-- a report is no refusal
pub apart : (form : Form) (task : Task) (status : Status) → AreOneAnswer form (Ok task) (Err status) → ⊥
apart (check_form cell) task status same = ok_not_err task status same
apart (replay_form cell out order scripts) task status same = ok_not_err task status same
apart (room_form cell out scripts) task status same = ok_not_err task status same
apart (make_form n out) task status same = ok_not_err task status same
apart (drill_form n sessions) task status same = ok_not_err task status same
apart (edge_form cell out operation) task status same = ok_not_err task status same
apart (probe_form cell at) task status same = ok_not_err task status same
apart (apply_form cell out update) task status same = ok_not_err task status same
apart no_form task status same = ok_not_err task status same
