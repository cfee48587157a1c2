-- When there are more findings than a cell may have. This project's own rule.
use Rattle.std.specs.Prelude.{◌≡◌, ℕ, ◌<◌}
use Rattle.history_spec.specs.declared.refusal.StateRefusal.TheVariants.{FindingsFull}
use Rattle.history_spec.specs.Steps.{finding_limit}
use Rattle.cell_bench.specs.declared.refusal.PlanRefusal.{PlanRefusal}
use Rattle.cell_bench.specs.declared.refusal.PlanRefusal.TheVariants.{State, NoMemory}

-- so many findings are too many, or memory is out
abbrev pub IsFull : ℕ → PlanRefusal → Type 0
IsFull count (State why) = (why ≡ FindingsFull) × (finding_limit < count)
IsFull count NoMemory = Unit {0}
