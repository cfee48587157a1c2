use Rattle.std.proofs.Common.{sym, subst}
use Rattle.script_text.specs.Guess.{IsReadOf}
use Rattle.script_text.proofs.Commands.{read_by}
use Rattle.script_text.proofs.reading.read_command.Goals as goal

pub returns : goal.returns
returns c = subst (IsReadOf c.args.line.now) (sym c.then_some.ensures)
    (read_by c.args.line.now c.in_ok-command.command c.in_ok-same.same c.in_ok-same.ensures c.in_ok-command.ensures.width c.in_ok-command.ensures.found)
