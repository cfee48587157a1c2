use Rattle.std.proofs.Common.{◌≡◌, ◌^◌, ◌<◌, take}
use Rattle.frame_spec.specs.RecordFrame.{AreDigits, decimal_value}
use Rattle.iso_frame.proofs.leader.decimal.Given as goal

abbrev pub invariant-loop-digit : goal.invariant-loop-digit
invariant-loop-digit l = record {
  digits : AreDigits (take l.digit-index l.digits);
  value : l.number ≡ decimal_value (take l.digit-index l.digits);
  bound : l.number < 10 ^ l.digit-index;
}
