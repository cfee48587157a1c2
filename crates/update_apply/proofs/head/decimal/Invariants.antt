use Rattle.std.proofs.Common.{◌≡◌, ◌^◌, ◌<◌, take, true}
use Rattle.std.specs.List.{list_all}
use Rattle.frame_spec.specs.FrameDecision.{is_digit}
use Rattle.frame_spec.specs.RecordFrame.{decimal_value}
use Rattle.update_apply.proofs.head.decimal.Given as goal

abbrev pub invariant-loop-digit : goal.invariant-loop-digit
invariant-loop-digit l = record {
  digits : list_all is_digit (take l.digit-index l.digits) ≡ true;
  value : l.number ≡ decimal_value (take l.digit-index l.digits);
  bound : l.number < 10 ^ l.digit-index;
}
