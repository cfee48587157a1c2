use Rattle.enc_top.proofs.OneAnswer.{one_output}
use Rattle.enc_top.proofs.law.one_answer_is_asked.Goals as goal

pub returns : goal.returns
returns c = one_output
