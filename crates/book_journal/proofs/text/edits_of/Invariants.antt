use Rattle.std.proofs.Common.{◌≡◌, map, take}
use Rattle.text_spec.specs.declared.command.Command.TheVariants.{Push}
use Rattle.book_journal.proofs.text.edits_of.Given as goal

-- the commands so far push the edits
abbrev pub invariant-loop-command : goal.invariant-loop-command
invariant-loop-command l = take l.command-index l.commands ≡ map Push l.edits.items
