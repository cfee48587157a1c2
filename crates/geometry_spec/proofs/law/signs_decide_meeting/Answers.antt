use Rattle.geometry_spec.proofs.MeetingCases.{meeting_decided}
use Rattle.geometry_spec.proofs.law.signs_decide_meeting.Goals as goal

pub returns : goal.returns
returns c = meeting_decided
