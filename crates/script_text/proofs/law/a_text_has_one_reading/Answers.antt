use Rattle.script_text.proofs.Readings.{same_readings}
use Rattle.script_text.proofs.law.a_text_has_one_reading.Goals as goal

pub returns : goal.returns
returns c = same_readings
