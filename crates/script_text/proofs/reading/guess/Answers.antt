use Rattle.std.proofs.Common.{◌∙◌}
use Rattle.script_text.proofs.Commands.{command_cut}
use Rattle.script_text.proofs.reading.guess.Goals as goal

pub returns-in-Some-clause-found : goal.returns-in-Some-clause-found
returns-in-Some-clause-found c = λ command can spelled.
    let cut = command_cut command c.args.line.now c.in-Some.text.now _ c.in-Some.ensures.cases.0 spelled in
    c.command_of.ensures.found command can (c.cut_at.ensures.before ∙ cut.front_is) (c.cut_at.ensures.from ∙ cut.rest_is)
