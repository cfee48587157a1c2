use Rattle.std.proofs.Common.{sym, ◌∙◌}
use Rattle.script_text.proofs.Commands.{edit_width, set_found}
use Rattle.script_text.proofs.reading.set_of.Goals as goal

pub returns-clause-width : goal.returns-clause-width
returns-clause-width c = λ own. edit_width c.in_ok-record_of.field-0 c.in_ok-record_of.ensures.width own

pub returns-clause-found : goal.returns-clause-found
returns-clause-found c = λ edit can first spelled.
    set_found edit c.args.words.now c.in_ok-record_of.field-0 c.kind_of_words.result (sym c.is_head.ensures ∙ c.if-is_head.false) c.kind_of_words.ensures
    c.in_ok-record_of.ensures.found first can spelled
