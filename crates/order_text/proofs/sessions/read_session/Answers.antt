use Rattle.std.proofs.Common.{arith, sym}
use Rattle.order_text.proofs.SessionNames.{session_of-none, session_of-outside, session_of-inside}
use Rattle.order_text.proofs.sessions.read_session.Goals as goal

pub returns-in-Some-clause-session : goal.returns-in-Some-clause-session
returns-in-Some-clause-session c =
    let above = c.if-number-ge1.true in
    let within = c.if-number-quotas.true in
    sym (session_of-inside c.args.quotas.now c.args.word.now c.in-Some.number c.requires c.in-Some.ensures.spelled (omega (arith, above))
    (omega (arith, within)))

pub returns-in_default-clause-session : goal.returns-in_default-clause-session
returns-in_default-clause-session c =
    let over = c.if-number-quotas.false in
    sym (session_of-outside c.args.quotas.now c.args.word.now c.in-Some.number c.requires c.in-Some.ensures.found
    (λ i below is. omega (arith, below, is, over)))

pub returns-in_default-2-clause-session : goal.returns-in_default-2-clause-session
returns-in_default-2-clause-session c =
    let under = c.if-number-ge1.false in
    sym (session_of-outside c.args.quotas.now c.args.word.now c.in-Some.number c.requires c.in-Some.ensures.found
    (λ i below is. omega (arith, below, is, under)))

pub returns-in_default-3-clause-session : goal.returns-in_default-3-clause-session
returns-in_default-3-clause-session c = sym (session_of-none c.args.quotas.now c.args.word.now c.requires c.in_default.ensures.found)
