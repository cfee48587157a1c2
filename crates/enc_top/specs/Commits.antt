-- Edits as the first commit of a cell's history: why it is refused, and what it leaves. This project's own rules.
use Rattle.std.specs.Prelude.{[], List, Option, None, Some, Result, Ok, Err}
use Rattle.std.specs.Option.{option_map_or}
use Rattle.cell_spec.specs.Edits.{apply_edits}
use Rattle.cell_spec.specs.declared.edit.Edit.{Edit}
use Rattle.history_spec.specs.Steps.{answer, commit, opening}
use Rattle.history_spec.specs.declared.refusal.StateRefusal.{StateRefusal}
use Rattle.history_spec.specs.declared.refusal.StateRefusal.TheVariants as state
use Rattle.history_spec.specs.declared.reply.Reply.{Reply}
use Rattle.history_spec.specs.declared.reply.Reply.TheVariants as reply
use Rattle.s57_types.specs.declared.cell.Cell.{Cell}
use Rattle.report_text.specs.declared.status.Status.{Status}
use Rattle.report_text.specs.declared.status.Status.TheVariants.{NoMemory, Refused}

-- the refusal that an answer tells
abbrev pub refusal_told : Reply → Option StateRefusal
refusal_told (reply.Viewed number findings) = None
refusal_told (reply.Formed fault) = None
refusal_told (reply.Newer number name desk edit) = None
refusal_told (reply.Refused why) = Some why
refusal_told (reply.Accepted number findings) = None

-- why the first step of a cell's history refuses a commit of edits, if it does
abbrev pub commit_refusal : Cell → List Edit → Option StateRefusal
commit_refusal c edits = refusal_told (answer (opening c) (commit 0 edits []))

-- a cell, unless a commit is refused
abbrev pub left_unless : Option StateRefusal → Cell → Result Cell Status
left_unless refusal d = option_map_or (λ why. Err (Refused why)) refusal (Ok d)

-- the cell that a commit of edits leaves, or the status at which the call ends
abbrev pub committed : Cell → List Edit → Result Cell Status
committed c edits = left_unless (commit_refusal c edits) (apply_edits edits c)

-- the edited cell would have too many records, too long a head or too many findings
abbrev pub IsTooLarge : StateRefusal → Type 0
IsTooLarge (state.AddExists name) = ⊥
IsTooLarge (state.SetMissing name) = ⊥
IsTooLarge (state.DelMissing name) = ⊥
IsTooLarge (state.CellFull count) = Unit {0}
IsTooLarge (state.HeadTooLong bytes) = Unit {0}
IsTooLarge state.FindingsFull = Unit {0}

-- the statuses at which a commit of edits that find their records can end
abbrev pub IsCommitStatus : Status → Type 0
IsCommitStatus NoMemory = Unit {0}
IsCommitStatus (Refused why) = IsTooLarge why
IsCommitStatus other = ⊥
