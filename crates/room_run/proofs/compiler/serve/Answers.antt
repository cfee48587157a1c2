use Rattle.std.proofs.Common.{◌≡◌, ◌≤◌, ℕ, count_by, sym, ap, ◌∙◌, subst, arith}
use Rattle.text_spec.specs.ScriptLines.{is_shared}
use Rattle.sessions.specs.SessionStates.{StaysServed}
use Rattle.room_run.specs.Compilers.{HasAtMost}
use Rattle.room_run.proofs.Turns.{has_called, is_done}
use Rattle.room_run.proofs.compiler.serve.Goals as goal

-- when all rounds are over, as many are done as there are
all_done : {done served end all : ℕ} → done ≡ served → end ≤ served → served ≤ end → end ≡ all → done ≡ all
all_done is over within total = omega arith

pub returns-in-Ok-clause-over : goal.returns-in-Ok-clause-over
returns-in-Ok-clause-over g c =
    let desk = c.loop-served.compiler.desk in
    let old = c.loop-served.compiler.session in
    let new = c.advance.new.self in
    let a = c.loop-served.invariant.at_desk in
    let script = c.loop-served.invariant.script in
    let count : count_by is_shared old.script ≡ count_by is_shared c.args.compiler.now.session.script = ap (count_by is_shared) script in
    let all = all_done c.loop-served.invariant.done c.loop-served-test.false c.loop-served.auto.served-end (c.shared-served-end.ensures ∙ sym count) in
    let stays = subst (λ b. StaysServed b desk.cell old new) c.base.ensures
    (subst (λ x. StaysServed c.base.result x old new) c.bench.ensures c.in-Ok.ensures.served) in
    let ended = is_done desk desk.cell old new c.in-Ok.field-0 stays c.stands.ensures a c.in-Ok.ensures.script all c.in-Ok.ensures.next in
    record {
      end = (ended.0, ended.1 ∙ script);
      few = subst (λ (n : ℕ). HasAtMost n desk) (all ∙ count) (has_called desk old a);
    }

pub returns-in-Err-advance-clause-over : goal.returns-in-Err-advance-clause-over
returns-in-Err-advance-clause-over g c =
    let desk = c.loop-served.compiler.desk in
    let old = c.loop-served.compiler.session in
    let script = c.loop-served.invariant.script in
    let count : count_by is_shared old.script ≡ count_by is_shared c.args.compiler.now.session.script = ap (count_by is_shared) script in
    let all = all_done c.loop-served.invariant.done c.loop-served-test.false c.loop-served.auto.served-end (c.shared-served-end.ensures ∙ sym count) in
    record { end = tt; few = subst (λ (n : ℕ). HasAtMost n desk) (all ∙ count) (has_called desk old c.loop-served.invariant.at_desk) }
