-- Findings that are gathered within a limit. This project's own.
use Rattle.std.specs.Prelude.{◌≡◌, ℕ, ◌≤◌, ◌<◌, ◌++◌, List, MatchResult, Result, length}
use Rattle.cell_findings.specs.declared.list.SubjectFinding.{SubjectFinding}
use Rattle.cell_findings.specs.declared.refusal.LoadRefusal.{LoadRefusal}
use Rattle.cell_findings.specs.declared.refusal.LoadRefusal.TheVariants.{FindingsFull, NoMemory}

-- the findings that were gathered are all that there are, and not more than the limit
pub record IsGathered (limit : ℕ) (all found : List SubjectFinding) : Type 0 where
  pub same : found ≡ all
  pub within : length all ≤ limit

-- why they weren't gathered: there are more than the limit, or memory runs out
abbrev pub IsOver : ℕ → List SubjectFinding → LoadRefusal → Type 0
IsOver limit all FindingsFull = limit < length all
IsOver limit all NoMemory = Unit {0}

-- within the limit these findings are put behind those that were there, and else it is said why not
abbrev pub Gathers : {X : Type 0} → ℕ → List SubjectFinding → List SubjectFinding → List SubjectFinding → Result X LoadRefusal → Type 0
Gathers limit before found after result = MatchResult result (λ _. IsGathered limit (before ++ found) after) (IsOver limit (before ++ found))
