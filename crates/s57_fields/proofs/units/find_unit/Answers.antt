use Rattle.std.proofs.Common.{sym, ◌∙◌, arith}
use Rattle.s57_fields.proofs.UnitLemmas.{goes_on}
use Rattle.s57_fields.proofs.units.find_unit.Goals as goal

pub loop-rest-preserved : goal.loop-rest-preserved
loop-rest-preserved c =
    let other = sym c.starts_with_unit.ensures ∙ c.if-starts_with_unit.false in
    let back = c.split_at.ensures.back in
    let back_len = c.split_at.ensures.back_len in
    let rest = c.loop-rest.rest.now in
    record {
      walk = rw back (goes_on c.args.low c.loop-rest.at rest _ c.loop-rest-test.true other c.loop-rest.invariant.walk);
      room = omega (arith, back_len);
    }
