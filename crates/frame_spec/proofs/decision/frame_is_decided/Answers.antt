use Rattle.frame_spec.proofs.FrameTests.{frame_decides}
use Rattle.frame_spec.proofs.decision.frame_is_decided.Goals as goal

pub returns : goal.returns
returns c = frame_decides
