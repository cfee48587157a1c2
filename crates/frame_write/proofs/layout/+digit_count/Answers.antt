use Rattle.std.proofs.Common.{arith}
use Rattle.std.proofs.lemmas.Fmt.{length-decimal-le}
use Rattle.frame_spec.proofs.DigitCounts.{digit_count-one, digit_count-more}
use Rattle.frame_write.proofs.layout.+digit_count.Goals as goal

pub returns-then-number-lt10 : goal.returns-then-number-lt10
returns-then-number-lt10 t c = record { count = digit_count-one c.args.number c.if-number-lt10.true; few = omega arith }

pub returns-else-number-lt10 : goal.returns-else-number-lt10
returns-else-number-lt10 t c = let count = c.digit_count.ensures.count in let more = digit_count-more c.args.number c.if-number-lt10.false (omega arith) in
    record { count = omega arith; few = omega (arith, length-decimal-le 5 c.args.number (omega arith) (omega arith) (omega arith)) }
