use Rattle.std.proofs.Common.{sym, ◌∙◌}
use Rattle.script_text.proofs.Commands.{guard_found}
use Rattle.script_text.proofs.reading.command_of.Goals as goal

pub returns-then-is_word-5-clause-found : goal.returns-then-is_word-5-clause-found
returns-then-is_word-5-clause-found c = λ command can first spelled.
    guard_found command c.args.others.now c.name_of_words.result c.name_of_words.ensures.found
    (sym first ∙ c.is_word-5.ensures.0 c.if-is_word-5.true) can spelled
