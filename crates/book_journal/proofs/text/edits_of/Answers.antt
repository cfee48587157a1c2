use Rattle.book_journal.proofs.Texts.{not_pushed}
use Rattle.book_journal.proofs.text.edits_of.Goals as goal

pub returns-in_default : goal.returns-in_default
returns-in_default c =
    not_pushed c.args.commands.now c.loop-command.command-index c.command-item.result c.loop-command-test.true c.command-item.is c.in_default.not-Push
