use Rattle.std.proofs.Common.{sym, ◌∙◌}
use Rattle.script_text.proofs.Commands.{edit_width, add_found}
use Rattle.script_text.proofs.reading.edit_of.Goals as goal

pub returns-then-is_word-clause-width : goal.returns-then-is_word-clause-width
returns-then-is_word-clause-width c = λ own. edit_width c.in_ok-record_of.field-0 c.in_ok-record_of.ensures.width own

pub returns-then-is_word-clause-found : goal.returns-then-is_word-clause-found
returns-then-is_word-clause-found c = λ edit can word words.
    add_found edit c.args.others.now c.in_ok-record_of.field-0 c.in_ok-record_of.ensures.found (sym word ∙ c.is_word.ensures.0 c.if-is_word.true) can words

pub returns-then-is_word-2-clause-found : goal.returns-then-is_word-2-clause-found
returns-then-is_word-2-clause-found c = λ edit can word words.
    c.set_of.ensures.found edit can (sym word ∙ c.is_word-2.ensures.0 c.if-is_word-2.true) words
