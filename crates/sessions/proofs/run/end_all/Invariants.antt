use Rattle.std.proofs.Common.{List}
use Rattle.s57_types.specs.declared.cell.Cell.{Cell}
use Rattle.history_spec.specs.declared.entry.Entry.{Entry}
use Rattle.sessions.specs.Replays.{AreEnded, AreEndedAs, scripts_of}
use Rattle.sessions.proofs.run.end_all.Given as goal

abbrev pub invariant-loop-editor : goal.invariant-loop-editor
invariant-loop-editor l = (c : Cell) (entries : List Entry) → AreEnded c entries l.fn.editors.items
    → AreEndedAs c entries (scripts_of l.yielded) l.transcripts.items
