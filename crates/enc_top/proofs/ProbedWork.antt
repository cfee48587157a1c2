-- What the words behind `probe` ask for.
use Rattle.std.proofs.Common.{◌≡◌, inl, inr, ℕ, ℤ, List, Option, None, Ok, Err, SFits, of_z, to_z, w32, refl, ap, ◌∙◌, subst}
use Rattle.std.specs.Prelude.{IfSome}
use Rattle.std.proofs.lemmas.Int.{to_z-of_z}
use Rattle.geometry_spec.specs.Points.{Point}
use Rattle.s57_types.specs.declared.cell.Cell.{Cell}
use Rattle.skin_probe.specs.ProbeText.{probe_text}
use Rattle.skin_probe.specs.Sheet.{sheet_of}
use Rattle.skin_probe.specs.WindingLaws.{AreSumsByEdges}
use Rattle.skin_probe.specs.declared.sheet.ProbeSheet.{ProbeSheet}
use Rattle.enc_outside.specs.Files.{Files}
use Rattle.call_files.specs.Inputs.{CellIs, IsFile, IsInputStatus, IsNotOfText, Tells}
use Rattle.enc_top.specs.Inputs.{IsReached, OutputIs}
use Rattle.enc_top.specs.Outcome.{IsAskedBy, IsProbeIn}
use Rattle.call_files.specs.Task.{Task, task_of}
use Rattle.enc_top.specs.Words.{Form, probe_form}
use Rattle.call_files.specs.declared.work.Work.{Work}
use Rattle.report_text.specs.declared.status.Status.{Status}
use Rattle.enc_top.proofs.Answered.{asked_status, fits_no_text}
use Rattle.call_files.proofs.Answered.{both_told, tells_first}

abbrev pub text_alone : List ℕ → Task
text_alone text = record { text = text; file = None }

-- a point whose coordinates are passed to a call
abbrev pub passed : ℤ → ℤ → Point
passed y x = (to_z w32 (of_z w32 y), to_z w32 (of_z w32 x))

pub passed_is : (y x : ℤ) → SFits w32 y → SFits w32 x → ◌≡◌ {A = Point} (passed y x) (y, x)
passed_is y x latitude longitude = λ i. (to_z-of_z w32 y latitude i, to_z-of_z w32 x longitude i)

-- the task, by its parts
pub probed_is : (c : Cell) (at : Point) (sheet : ProbeSheet) (text : List ℕ) → sheet ≡ sheet_of c at → AreSumsByEdges c at sheet.sums
    → (sheet.unbalanced ≡ 0 → sheet.sums.0 ≡ sheet.sums.1) → text ≡ probe_text at sheet → IsProbeIn c at (text_alone text)
probed_is c at sheet text is by_edges balanced told = record {
  is = ap text_alone (told ∙ ap (probe_text at) is);
  by_edges = subst (λ (s : ProbeSheet). AreSumsByEdges c at s.sums) is by_edges;
  balanced = subst (λ (s : ProbeSheet). s.unbalanced ≡ 0 → s.sums.0 ≡ s.sums.1) is balanced;
}

module _ (cell : List ℕ) (at : Point) (files : Option Files) (before after : ℕ) where
  abbrev form : Form
  form = probe_form cell at

  pub probe_done : (c : Cell) (work : Work) → IfSome files (λ fs. CellIs cell fs (Ok c)) → IsProbeIn c at (task_of work)
      → IsAskedBy ⊥ form files before after (Ok work)
  probe_done c work told probe = (
    record { start = c; told = told; probe = probe },
    both_told files told told (λ fs step again. inl (c, step, ap (λ (task : Task). Ok task) probe.is)),
  )

  -- the status at which the cell's file ends the call
  pub probe_ends : (status : Status) → IsNotOfText status → IsInputStatus (λ n. n ≡ cell) status
      → Tells (λ (c : Cell). c) (CellIs cell) (IsFile cell) files before after (Err status) → IsAskedBy ⊥ form files before after (Err status)
  probe_ends status text is tells =
      asked_status ⊥ form files before after status tt (fits_no_text form status text) is
      (tells_first (λ (c : Cell). c) task_of (CellIs cell) (OutputIs form) (IsFile cell) (IsReached form) files before after status
      (λ fs step. inr (status, step, refl)) (λ fs name near. near) tells)
