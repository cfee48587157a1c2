use Rattle.std.proofs.Common.{sym, ◌∙◌}
use Rattle.std.proofs.lemmas.Bool.{both_ways}
use Rattle.script_text.proofs.Heads.{zero_level, one_level}
use Rattle.script_text.proofs.head.level_of.Goals as goal

pub returns-then-is_word : goal.returns-then-is_word
returns-then-is_word c = λ level spelled. zero_level level (sym spelled ∙ c.is_word.ensures.0 c.if-is_word.true)

pub returns-else-is_word : goal.returns-else-is_word
returns-else-is_word c = λ level spelled.
    one_level level (λ is. both_ways c.is_word.result c.if-is_word.false (c.is_word.ensures.1 (spelled ∙ is)))
