use Rattle.std.proofs.Common.{◌≤◌, ◌+◌, length, sym, subst, arith}
use Rattle.std.proofs.lemmas.Bool.{eqb-true, eqb-false}
use Rattle.script_text.specs.Steps.{IsFirstRefusal}
use Rattle.script_text.proofs.Steps.{whole_script, refused}
use Rattle.script_text.proofs.reading.read_lines.Goals as goal

pub returns : goal.returns
returns c = whole_script _ _ _ _ (eqb-true (length c.loop-rest.rest.now) 0 (sym c.loop-rest-test.ensures)) c.loop-rest.invariant.0

pub returns-in-Err : goal.returns-in-Err
returns-in-Err c =
    let not_none = eqb-false (length c.loop-rest.rest.now) 0 (sym c.loop-rest-test.ensures) in
    let within : c.loop-rest.count + 1 ≤ length c.args.bytes.now = omega (arith, not_none, c.loop-rest.invariant.1) in
    subst (IsFirstRefusal c.args.bytes.now) (sym c.refusal_at.ensures)
    (refused c.args.bytes.now c.loop-rest.count c.loop-rest.rest.now c.loop-rest.script c.loop-rest.invariant.0 within c.in-Err.refusal c.in-Err.ensures.read)
