use Rattle.frame_spec.proofs.FrameTests.{answer_is}
use Rattle.frame_spec.proofs.decision.one_answer.Goals as goal

pub returns : goal.returns
returns c = answer_is
