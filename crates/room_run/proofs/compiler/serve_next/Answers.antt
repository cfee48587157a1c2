use Rattle.std.proofs.Common.{◌+◌, ℕ, count_by, ap, ◌∙◌, subst}
use Rattle.text_spec.specs.ScriptLines.{is_shared}
use Rattle.sessions.specs.SessionStates.{IsNext, StaysServed}
use Rattle.room_run.specs.Compilers.{ended_by}
use Rattle.room_run.specs.declared.compiler.Ended.TheVariants as ended
use Rattle.room_run.proofs.Calls.{entered, uncalled}
use Rattle.room_run.proofs.Halts.{before_all, cut_short, handed_on}
use Rattle.room_run.proofs.Turns.{answered_once, as_many, further, has_called, has_next}
use Rattle.room_run.proofs.compiler.serve_next.Goals as goal

pub returns-in_err-shared-clause-err : goal.returns-in_err-shared-clause-err
returns-in_err-shared-clause-err g c =
    let sticks = g.M.Meet.sticks c.args.meet.now in
    handed_on sticks c.args.serial c.args.session.now c.args.desk.now ended.NoMemory c.from_residual.result c.from_residual.ensures.1
    (before_all sticks c.args.serial c.args.session.now c.args.desk.now c.requires.at_desk)

pub unreachable-requires : goal.unreachable-requires
unreachable-requires g c =
    let desk = c.args.desk.now in
    let old = c.args.session.now in
    let new = c.advance.new.self in
    let stays = subst (λ b. StaysServed b desk.cell old new) c.base.ensures
    (subst (λ x. StaysServed c.base.result x old new) c.bench.ensures c.in_ok-shared.ensures.served) in
    has_next desk desk.cell old new stays c.stands.ensures c.requires.at_desk c.in_ok-shared.ensures.script c.requires.left
    (subst (IsNext new) c.in_default.is c.in_ok-shared.ensures.next)

pub returns-in-Err-clause-err : goal.returns-in-Err-clause-err
returns-in-Err-clause-err g c =
    let desk = c.args.desk.now in
    let s = c.args.session.now in
    record {
      halted = (c.in-Err.ensures.cause, c.in-Err.ensures.who.0 ∙ c.number.ensures, c.in-Err.ensures.who.1);
      few = (uncalled desk).few (count_by is_shared s.done) (has_called desk s c.requires.at_desk);
    }

pub returns-in_err-reply-clause-err : goal.returns-in_err-reply-clause-err
returns-in_err-reply-clause-err g c =
    let sticks = g.M.Meet.sticks c.args.meet.now in
    handed_on sticks c.args.serial c.args.session.now c.ask.new.desk (ended_by c.in_err-reply.field-0.0) c.from_residual-in_err-reply.result
    c.from_residual-in_err-reply.ensures.1
    (cut_short sticks c.args.serial c.args.session.now c.args.desk.now c.ask.new.desk c.in_err-reply.field-0.0 c.requires.at_desk c.in_err-reply.ensures.err)

pub returns-in_err-told-clause-err : goal.returns-in_err-told-clause-err
returns-in_err-told-clause-err g c =
    let sticks = g.M.Meet.sticks c.args.meet.now in
    let s = c.args.session.now in
    let desk = c.args.desk.now in
    let answer = c.in_ok-reply.ensures.ok in
    handed_on sticks c.args.serial s c.ask.new.desk ended.NoMemory c.from_residual-in_err-told.result c.from_residual-in_err-told.ensures.1
    (record {
      halted = tt;
      few = entered desk c.ask.new.desk answer.asked c.in_ok-reply.reply
          (count_by is_shared s.done) c.in_ok-reply.ensures.same answer.turned (has_called desk s c.requires.at_desk);
    })

pub returns-clause-ok : goal.returns-clause-ok
returns-clause-ok g c =
    let desk = c.args.desk.now in
    let old = c.args.session.now in
    let new = c.advance.new.self in
    let stays = subst (λ b. StaysServed b desk.cell old new) c.base.ensures
    (subst (λ x. StaysServed c.base.result x old new) c.bench.ensures c.in_ok-shared.ensures.served) in
    let here = further desk desk.cell old new stays c.stands.ensures c.requires.at_desk in
    let once = answered_once desk c.ask.new.desk new c.told.new.self c.in-Some.shared c.in_ok-reply.reply here c.in_ok-reply.ensures.same
    c.in_ok-reply.ensures.ok c.in_ok-told.ensures.done c.in_ok-told.ensures.draft c.in_ok-told.ensures.lines in
    record { at_desk = once.at_desk; more = once.more ∙ ap (λ (n : ℕ). n + 1) (as_many desk desk.cell old new stays c.stands.ensures c.requires.at_desk) }
