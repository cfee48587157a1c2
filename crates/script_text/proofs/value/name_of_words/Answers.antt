use Rattle.std.proofs.Common.{[]}
use Rattle.script_text.proofs.value.name_of_words.Goals as goal

pub returns-clause-found : goal.returns-clause-found
returns-clause-found c = λ name width spelled. (c.next_name.ensures.found name [] width tt spelled).0
