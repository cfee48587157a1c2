use Rattle.std.proofs.Common.{sym, subst, ap, ◌∙◌}
use Rattle.commit_book.specs.Books.{IsBookRefusal}
use Rattle.workroom.specs.Desks.{DeskState, IsLeftBehind, IsTurned, IsUnasked, desk_of_handle}
use Rattle.workroom.specs.Turns.{asked_of}
use Rattle.workroom.proofs.Turns.{call_entered, call_refused, copy_kept, copy_left, copy_taken, left_behind}
use Rattle.workroom.proofs.desk.Desk.ask.Goals as goal

-- the base stays
pub invariant_of-self : goal.invariant_of-self
invariant_of-self g c =
    let desk = c.self.inside in
    copy_kept desk.seat c.take_turn.new.seat c.args.ask c.in-Ok.turned c.in-Ok.ensures.turn desk.base desk.bench c.self.invariant
    (ap (λ s. s.origin) c.take_turn.ensures.same)

pub returns-then-base-self-clause-ok : goal.returns-then-base-self-clause-ok
returns-then-base-self-clause-ok g c =
    let desk = c.self.inside in
    let reply = c.into_parts-reply.result.0 in
    subst (λ (d : DeskState). IsTurned d (asked_of c.args.ask) reply (desk_of_handle c.take_turn.new.seat desk.bench desk.base)) c.self.view_is
    (call_entered desk.seat c.take_turn.new.seat c.args.ask c.in-Ok.turned c.in-Ok.ensures.turn reply desk.base desk.base desk.bench desk.bench
    c.into_parts-reply.ensures.reply)

-- there is no copy
pub invariant_of-self-in_default : goal.invariant_of-self-in_default
invariant_of-self-in_default g c =
    let desk = c.self.inside in
    copy_kept desk.seat c.take_turn.new.seat c.args.ask c.in-Ok.turned c.in-Ok.ensures.turn desk.base desk.bench c.self.invariant
    (ap (λ s. s.origin) c.take_turn.ensures.same)

pub returns-in_default-clause-err : goal.returns-in_default-clause-err
returns-in_default-clause-err g c =
    let desk = c.self.inside in
    subst (λ (d : DeskState). IsLeftBehind d (asked_of c.args.ask) (desk_of_handle c.take_turn.new.seat desk.bench desk.base)) c.self.view_is
    (left_behind desk.seat c.take_turn.new.seat c.args.ask c.in-Ok.turned c.in-Ok.ensures.turn desk.base c.base_after-base.result
    desk.bench c.self.invariant c.base_after-base.ensures c.if-base-self.false)

-- the copy is taken
pub invariant_of-self-in-Ok : goal.invariant_of-self-in-Ok
invariant_of-self-in-Ok g c =
    let desk = c.self.inside in
    copy_taken desk.seat c.take_turn.new.seat c.args.ask c.in-Ok.turned c.in-Ok.ensures.turn desk.base c.base_after-base.result c.in-Some.bench
    c.base_after-base.ensures c.if-base-self.false (sym c.into_parts-reply.ensures.bench ∙ c.in-Some.is) (ap (λ s. s.origin) c.take_turn.ensures.same)

pub returns-in-Some-clause-ok : goal.returns-in-Some-clause-ok
returns-in-Some-clause-ok g c =
    let desk = c.self.inside in
    let reply = c.into_parts-reply.result.0 in
    let base = c.base_after-base.result in
    subst (λ (d : DeskState). IsTurned d (asked_of c.args.ask) reply (desk_of_handle c.take_turn.new.seat c.in-Some.bench base)) c.self.view_is
    (call_entered desk.seat c.take_turn.new.seat c.args.ask c.in-Ok.turned c.in-Ok.ensures.turn reply desk.base base desk.bench c.in-Some.bench
    c.into_parts-reply.ensures.reply)

-- nothing was entered
pub invariant_of-self-in-Err-LogFull : goal.invariant_of-self-in-Err-LogFull
invariant_of-self-in-Err-LogFull g c =
    let desk = c.self.inside in
    copy_left desk.seat c.take_turn.new.seat c.in-Err-LogFull.field-0 c.in-Err-LogFull.ensures.turn desk.base desk.bench c.self.invariant
    (ap (λ s. s.origin) c.take_turn.ensures.same)

pub invariant_of-self-in-Err-NoMemory : goal.invariant_of-self-in-Err-NoMemory
invariant_of-self-in-Err-NoMemory g c =
    let desk = c.self.inside in
    copy_left desk.seat c.take_turn.new.seat c.in-Err-NoMemory.field-0 c.in-Err-NoMemory.ensures.turn desk.base desk.bench c.self.invariant
    (ap (λ s. s.origin) c.take_turn.ensures.same)

pub returns-in-Err-LogFull-clause-err : goal.returns-in-Err-LogFull-clause-err
returns-in-Err-LogFull-clause-err g c =
    let desk = c.self.inside in
    let new = c.take_turn.new.seat in
    let why = c.in-Err-LogFull.field-0 in (
      subst (λ (d : DeskState). IsUnasked d (desk_of_handle new desk.bench desk.base)) c.self.view_is
          (call_refused desk.seat new why c.in-Err-LogFull.ensures.turn desk.base desk.bench),
      subst (IsBookRefusal new.observed) c.in-Err-LogFull.field-0-is c.in-Err-LogFull.ensures.turn.relation.why_is,
    )

pub returns-in-Err-NoMemory-clause-err : goal.returns-in-Err-NoMemory-clause-err
returns-in-Err-NoMemory-clause-err g c =
    let desk = c.self.inside in
    let new = c.take_turn.new.seat in
    subst (λ (d : DeskState). IsUnasked d (desk_of_handle new desk.bench desk.base)) c.self.view_is
    (call_refused desk.seat new c.in-Err-NoMemory.field-0 c.in-Err-NoMemory.ensures.turn desk.base desk.bench)
