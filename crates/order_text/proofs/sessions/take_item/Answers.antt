use Rattle.std.proofs.Common.{◌≡◌, ◌<◌, ◌≤◌, ◌-◌, length, get_or, arith, sym, ◌∙◌, ap}
use Rattle.std.specs.Prelude.{slice_index}
use Rattle.text_spec.specs.OrderLine.{is_bad_session}
use Rattle.order_text.proofs.Judged.{bad_session, good_session, at_default}
use Rattle.order_text.proofs.sessions.take_item.Goals as goal

pub returns-then-quotas-session-clause-bad : goal.returns-then-quotas-session-clause-bad
returns-then-quotas-session-clause-bad c =
    let used = c.args.taken.now.used.items in
    let within : c.in-Some.session ≤ length used = let below = c.in-Some.ensures.within.1 in omega (arith, below, c.requires.length) in
    let above = c.in-Some.ensures.within.0 in
    let count : c.index.result.now ≡ slice_index used (c.in-Some.session - 1) =
    at_default used (c.in-Some.session - 1) c.index.result.now (omega (arith, above, within)) c.index.ensures in
    let spent : get_or c.args.quotas.now (c.in-Some.session - 1) 0 ≤ c.index.result.now = c.if-quotas-session.true in
    sym (bad_session c.args.quotas.now c.args.taken.now.order.items used c.in-Some.session c.requires.counts above within (omega (arith, count, spent)))
    ∙ ap (is_bad_session c.args.quotas.now c.args.taken.now.order.items) c.in-Some.ensures.session

pub returns-clause-bad : goal.returns-clause-bad
returns-clause-bad c =
    let used = c.args.taken.now.used.items in
    let within : c.in-Some.session ≤ length used = let below = c.in-Some.ensures.within.1 in omega (arith, below, c.requires.length) in
    let above = c.in-Some.ensures.within.0 in
    let count : c.index.result.now ≡ slice_index used (c.in-Some.session - 1) =
    at_default used (c.in-Some.session - 1) c.index.result.now (omega (arith, above, within)) c.index.ensures in
    let left : c.index.result.now < get_or c.args.quotas.now (c.in-Some.session - 1) 0 = c.if-quotas-session.false in
    sym (good_session c.args.quotas.now c.args.taken.now.order.items used c.in-Some.session c.requires.counts above within (omega (arith, count, left)))
    ∙ ap (is_bad_session c.args.quotas.now c.args.taken.now.order.items) c.in-Some.ensures.session
