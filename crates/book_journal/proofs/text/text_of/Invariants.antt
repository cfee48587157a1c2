use Rattle.std.proofs.Common.{◌≡◌, take}
use Rattle.book_journal.specs.Entries.{edit_lines}
use Rattle.book_journal.proofs.text.text_of.Given as goal

-- the lines of the edits so far
abbrev pub invariant-loop-edit : goal.invariant-loop-edit
invariant-loop-edit l = l.text.items ≡ edit_lines (take l.edit-index l.edits)
