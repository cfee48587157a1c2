-- What a bench keeps, and what it answers when a cell is loaded or edits are planned. This project's own rules.
use Rattle.std.specs.Prelude.{◌≡◌, ℕ, ◌≤◌, true, List, Option, None, Some}
use Rattle.s57_types.specs.declared.cell.Cell.{Cell}
use Rattle.s57_types.specs.declared.name.RecName.{RecName}
use Rattle.cell_spec.specs.declared.edit.Edit.{Edit}
use Rattle.cell_spec.specs.declared.finding.Finding.{Finding}
use Rattle.cell_spec.specs.declared.finding.Row.{Row}
use Rattle.cell_spec.specs.declared.key.Key.{Key}
use Rattle.cell_spec.specs.declared.key.Subject.{Subject}
use Rattle.cell_spec.specs.Edits.{apply_edits, find_their_records, touched_keys}
use Rattle.rule_spec.specs.Affected.{affected_list, change_by}
use Rattle.rule_spec.specs.Findings.{finding_total}
use Rattle.affected_subjects.specs.declared.reach.Reach.{Reach}
use Rattle.affected_subjects.specs.Reached.{gone_list}
use Rattle.finding_laws.specs.Tables.{Covering, IsCoveringsOf, IsReadsOf, IsVerdictTable}
use Rattle.edit_sets.specs.FormFault.{GuardedEdits}
use Rattle.history_spec.specs.Steps.{finding_limit, state_refusal}
use Rattle.cell_findings.specs.declared.refusal.LoadRefusal.{LoadRefusal}
use Rattle.cell_findings.specs.AllFindings.{IsFindingRefusal}
use Rattle.cell_bench.specs.declared.refusal.PlanRefusal.{PlanRefusal}
use Rattle.cell_bench.specs.declared.refusal.PlanRefusal.TheVariants as plan
use Rattle.cell_bench.specs.Ready.{AreExact}
use Rattle.cell_bench.specs.Verdicts.{total_of}

-- the coverings, the read sets and the findings of a cell, which has no more findings than may be
pub record IsBench (c : Cell) (coverings : List (RecName × Covering)) (reads : List (Subject × List Key)) (rows : List (Subject × List Finding)) : Type 0 where
  pub coverings_are : IsCoveringsOf c coverings
  pub reads_are : IsReadsOf c reads
  pub verdicts_are : IsVerdictTable c rows
  pub few : total_of rows ≤ finding_limit

-- a loaded cell is the one that was given, and is within the limit
pub record IsLoaded (c bench : Cell) : Type 0 where
  pub same : bench ≡ c
  pub few : finding_total c ≤ finding_limit

-- a cell isn't loaded where it has more findings than the limit, or where memory is out
abbrev pub IsLoadRefusal : Cell → LoadRefusal → Type 0
IsLoadRefusal c why = IsFindingRefusal c finding_limit why

-- what is planned is the edited cell, and nothing speaks against the edits
pub record IsPlanned (c : Cell) (edits : List Edit) (planned : Cell) : Type 0 where
  pub cell_is : planned ≡ apply_edits edits c
  pub none : state_refusal c edits ≡ None

-- edits aren't planned where the cell doesn't take them, or where memory is out
abbrev pub IsPlanRefusal : Cell → List Edit → PlanRefusal → Type 0
IsPlanRefusal c edits (plan.State why) = state_refusal c edits ≡ Some why
IsPlanRefusal c edits plan.NoMemory = Unit {0}

-- the next bench of edits is of the edited cell, which has no more findings than may be
pub record IsNext (d next : Cell) : Type 0 where
  pub cell_is : next ≡ d
  pub few : finding_total d ≤ finding_limit

-- what edits of a cell reach: the keys that they touch, the affected subjects, what is looked at and gone, and the tiles of the edited cell
pub record IsReachOf (edits : List Edit) (c : Cell) (reach : Reach) : Type 0 where
  pub touched : reach.touched ≡ touched_keys edits c
  pub judged : reach.judged ≡ affected_list (change_by edits c)
  pub gone : reach.gone ≡ gone_list (change_by edits c)
  pub tiles : IsCoveringsOf (apply_edits edits c) reach.tiles

-- rows that are still valid are right for the cell that edits leave, where these find their records
abbrev pub AreReady : Cell → List Edit → List Key → List Row → Type 0
AreReady c edits stale rows = find_their_records edits c ≡ true → AreExact (apply_edits edits c) stale rows

-- what a prepared commit is seen as
pub record PreparedCommit : Type 0 where
  pub base : ℕ
  pub edits : GuardedEdits
  pub rows : List Row
  pub ahead : Option Cell
