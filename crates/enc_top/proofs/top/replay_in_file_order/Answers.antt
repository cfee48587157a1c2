use Rattle.std.proofs.Common.{◌≡◌, IfSome, Ok, Err, inr, refl, ap, ◌∙◌, subst}
use Rattle.std.proofs.lemmas.Result.{err_from_is_err_and}
use Rattle.enc_top.specs.Task.{run_task}
use Rattle.call_files.specs.Task.{task_of}
use Rattle.call_files.specs.declared.work.Work.{Work}
use Rattle.text_spec.specs.OrderLine.{IsOrder}
use Rattle.room_laws.specs.Orders.{quotas_of}
use Rattle.call_files.specs.Inputs.{IsFile, OrderIs}
use Rattle.enc_top.specs.Inputs.{IsOrderedRun, OrderedRunIs}
use Rattle.call_files.proofs.Answered.{if_ok_more, tells_first}
use Rattle.enc_top.proofs.top.replay_in_file_order.Goals as goal

pub returns-in_err-sessions-clause-tells : goal.returns-in_err-sessions-clause-tells
returns-in_err-sessions-clause-tells g c =
    let quotas = c.deref-2.ensures.value ∙ c.in_ok-quotas.ensures ∙ ap quotas_of c.deref.ensures.value in
    let status = c.in_err-sessions.field-0.0 in
    let refused = err_from_is_err_and c.from_residual-in_err-sessions.result c.from_residual-in_err-sessions.ensures.1 in
    rw (refused.1, refused.2) (tells_first (λ order. order) task_of (OrderIs c.deref-2.result.now c.args.order.now)
    (OrderedRunIs c.args.bench c.args.out.now c.args.order.now c.args.scripts.items) (IsFile c.args.order.now) (IsFile c.args.order.now)
    (g.H.Shelf.files c.args.shelf.now) (g.H.Shelf.read_faults c.args.shelf.now) (g.H.Shelf.read_faults c.order_in_file.new.shelf) status
    (λ fs bad. inr (status, subst (λ q. OrderIs q c.args.order.now fs (Err status)) quotas bad, refl))
    (λ fs n near. near) c.in_err-sessions.ensures.tells)

pub replay_and_export-requires-clause-order : goal.replay_and_export-requires-clause-order
replay_and_export-requires-clause-order g c κs within =
    subst (λ quotas. IsOrder quotas c.in_ok-sessions.sessions) (c.deref-2.ensures.value ∙ c.in_ok-quotas.ensures ∙ ap quotas_of c.deref.ensures.value)
    c.in_ok-sessions.ensures.order

pub returns-clause-run : goal.returns-clause-run
returns-clause-run g c =
    let cell = c.args.bench in
    let commands = c.args.scripts.items in
    let order = c.args.order.now in
    let files = g.H.Shelf.files c.args.shelf.now in
    let sessions = c.in_ok-sessions.sessions in
    let told : IfSome files (λ fs. OrderIs (quotas_of commands) order fs (Ok sessions)) =
    subst (λ quotas. IfSome files (λ fs. OrderIs quotas order fs (Ok sessions)))
    (c.deref-2.ensures.value ∙ c.in_ok-quotas.ensures ∙ ap quotas_of c.deref.ensures.value) c.in_ok-sessions.ensures.tells in
    if_ok_more (λ (work : Work). task_of work ≡ run_task cell c.args.out.now commands sessions)
    (λ (work : Work). IsOrderedRun cell c.args.out.now order commands files (task_of work)) c.replay_and_export.result
    (λ work is. record {
      sessions = sessions;
      told = told;
      is = is;
      course = c.runs_take_their_course.ensures cell commands sessions
          (subst (λ quotas. IsOrder quotas sessions) (c.deref-2.ensures.value ∙ c.in_ok-quotas.ensures ∙ ap quotas_of c.deref.ensures.value)
          c.in_ok-sessions.ensures.order);
      read_back =
          c.exports_are_read_back.ensures c.requires.of_file.0 cell commands sessions c.requires.of_file.1 c.requires.of_file.2 c.requires.of_texts;
    })
    c.replay_and_export.ensures.run
