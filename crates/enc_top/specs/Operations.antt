-- Operations on edges by one commit: why they aren't done, and what they leave. This project's own rules.
use Rattle.std.specs.Prelude.{◌≡◌, ◌⊎◌, List, Option, Some, Result, Err, option_map}
use Rattle.std.specs.Option.{option_map_or}
use Rattle.cell_spec.specs.declared.edit.Edit.{Edit}
use Rattle.edit_sets.specs.FormFault.{GuardedEdits}
use Rattle.s57_types.specs.declared.cell.Cell.{Cell}
use Rattle.topo_ops.specs.Join.{join_by, join_edits, join_refusal}
use Rattle.topo_ops.specs.Kept.{IsJoin, IsSplit, JoinKeeps, SplitKeeps}
use Rattle.topo_ops.specs.Refusals.{number_of}
use Rattle.topo_ops.specs.Split.{split_by, split_edits, split_refusal}
use Rattle.topo_ops.specs.declared.refusal.OpRefusal.{OpRefusal}
use Rattle.enc_top.specs.Commits.{IsCommitStatus, committed}
use Rattle.enc_top.specs.declared.operation.Operation.{Operation}
use Rattle.enc_top.specs.declared.operation.Operation.TheVariants.{Split, Join}
use Rattle.report_text.specs.declared.status.Status.{Status}
use Rattle.report_text.specs.declared.status.Status.TheVariants.{NoMemory, OpRefused}

-- why a cell's edges can't be split or joined so, if they can't
abbrev pub operation_refusal : Cell → Operation → Option OpRefusal
operation_refusal c (Split edge at node fresh) = split_refusal c.head.nall c (split_by edge at node fresh)
operation_refusal c (Join edge other) = join_refusal c.head.nall c (join_by edge other)

-- the edits that do it
abbrev pub operation_edits : Cell → Operation → List Edit
operation_edits c (Split edge at node fresh) = split_edits c (split_by edge at node fresh)
operation_edits c (Join edge other) = join_edits c (join_by edge other)

-- the edit set, with what is known of it
abbrev pub IsOperation : Cell → Operation → GuardedEdits → Type 0
IsOperation c (Split edge at node fresh) set = IsSplit c.head.nall c (split_by edge at node fresh) set
IsOperation c (Join edge other) set = IsJoin c.head.nall c (join_by edge other) set

-- what the cell that is left keeps: where each feature runs, and how areas use each edge
abbrev pub OperationKeeps : Cell → Cell → Operation → Type 0
OperationKeeps c d (Split edge at node fresh) = SplitKeeps c d (split_by edge at node fresh)
OperationKeeps c d (Join edge other) = JoinKeeps c d (join_by edge other)

-- the status of a cause
abbrev pub refused_operation : OpRefusal → Status
refused_operation why = OpRefused (number_of why)

-- it is that of the cause that a rule tells, unless memory ran out
abbrev pub IsOperationStatus : Option OpRefusal → Status → Type 0
IsOperationStatus rule status = (option_map refused_operation rule ≡ Some status) ⊎ (status ≡ NoMemory)

-- the cell that an operation leaves, or the status at which the call ends
abbrev pub operated : Cell → Operation → Result Cell Status
operated c operation =
    option_map_or (λ why. Err (refused_operation why)) (operation_refusal c operation) (committed c (operation_edits c operation))

-- the statuses at which an operation can end
abbrev pub IsOperationEnd : Status → Type 0
IsOperationEnd (OpRefused cause) = Unit {0}
IsOperationEnd other = IsCommitStatus other
