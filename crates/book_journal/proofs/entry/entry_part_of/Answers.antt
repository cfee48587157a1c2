use Rattle.std.proofs.Common.{arith, rules}
use Rattle.std.proofs.lemmas.Grind.{common_steps}
use Rattle.book_journal.specs.Entries.{four_bytes}
use Rattle.book_journal.proofs.entry.entry_part_of.Goals as goal

pub returns : goal.returns
unfolding four_bytes
returns c = first_of (search rules, cc, grind (arith, common_steps))
