use Rattle.std.proofs.Common.{◌≡◌, ◌⊎◌, inl, inr, Ok, Global, map, string_bytes, refl, subst}
use Rattle.std.specs.Prelude.{Vec}
use Rattle.std.proofs.lemmas.Result.{err_from_is_err_and}
use Rattle.call_files.specs.Task.{task_of}
use Rattle.script_text.specs.declared.script.Script.{Script}
use Rattle.call_files.specs.Inputs.{IsAmong, IsFile, IsReachedScript, ScriptsAre, Tells}
use Rattle.enc_top.specs.Inputs.{IsOrderedRun, IsReachedInRun, IsRunOf, OrderedRunIs, RunIs}
use Rattle.call_files.specs.declared.work.Work.{Work}
use Rattle.call_files.proofs.Answered.{if_err_more, if_ok_more, status_of_more, tells_first, tells_last}
use Rattle.enc_top.proofs.top.replay_scripts.Goals as goal

pub returns-in_err-scripts-clause-tells : goal.returns-in_err-scripts-clause-tells
returns-in_err-scripts-clause-tells g c =
    let status = c.in_err-scripts.field-0.0 in
    let refused = err_from_is_err_and c.from_residual.result c.from_residual.ensures.1 in
    rw (refused.1, refused.2) (tells_first (λ (scripts : Vec Script Global). scripts.items) task_of (ScriptsAre (map string_bytes c.args.names.now))
    (RunIs c.args.bench c.args.out.now c.args.order.now (map string_bytes c.args.names.now))
    (λ fs n. IsReachedScript (map string_bytes c.args.names.now) fs n) (λ fs n. IsReachedInRun c.args.order.now (map string_bytes c.args.names.now) fs n)
    (g.H.Shelf.files c.args.shelf.now) (g.H.Shelf.read_faults c.args.shelf.now) (g.H.Shelf.read_faults c.scripts_in_files.new.shelf) status
    (λ fs bad. inr (status, bad, refl)) (λ fs n near. inl near) c.in_err-scripts.ensures.tells)

pub returns-in_err-scripts-clause-status : goal.returns-in_err-scripts-clause-status
returns-in_err-scripts-clause-status g c =
    let status = c.in_err-scripts.field-0.0 in
    let refused = err_from_is_err_and c.from_residual.result c.from_residual.ensures.1 in
    rw (refused.1, refused.2) (status_of_more (IsAmong (map string_bytes c.args.names.now))
    (λ n. (n ≡ c.args.order.now) ⊎ IsAmong (map string_bytes c.args.names.now) n) status (λ n is. inr is) c.in_err-scripts.ensures.status)

pub returns-clause-tells : goal.returns-clause-tells
returns-clause-tells g c =
    let names = map string_bytes c.args.names.now in
    let tells =
    subst (λ files. Tells task_of (OrderedRunIs c.args.bench c.args.out.now c.args.order.now c.in_ok-scripts.scripts.items)
    (IsFile c.args.order.now) files (g.H.Shelf.read_faults c.scripts_in_files.new.shelf)
    (g.H.Shelf.read_faults c.replay_in_file_order.new.shelf) c.replay_in_file_order.result)
    c.in_ok-scripts.ensures.files
    c.replay_in_file_order.ensures.tells in
    tells_last task_of (OrderedRunIs c.args.bench c.args.out.now c.args.order.now c.in_ok-scripts.scripts.items)
    (RunIs c.args.bench c.args.out.now c.args.order.now names) (IsFile c.args.order.now) (λ fs n. IsReachedInRun c.args.order.now names fs n)
    (λ fs. ScriptsAre names fs (Ok c.in_ok-scripts.scripts.items))
    (g.H.Shelf.files c.args.shelf.now) (g.H.Shelf.read_faults c.args.shelf.now) (g.H.Shelf.read_faults c.scripts_in_files.new.shelf)
    (g.H.Shelf.read_faults c.replay_in_file_order.new.shelf) c.replay_in_file_order.result
    c.in_ok-scripts.ensures.read_faults c.in_ok-scripts.ensures.tells (λ fs answer good step. inl (c.in_ok-scripts.scripts.items, good, step))
    (λ fs n good is. inr (c.in_ok-scripts.scripts.items, good, is)) tells

pub returns-clause-status : goal.returns-clause-status
returns-clause-status g c =
    if_err_more (λ n. n ≡ c.args.order.now) (λ n. (n ≡ c.args.order.now) ⊎ IsAmong (map string_bytes c.args.names.now) n)
    c.replay_in_file_order.result (λ n is. inl is) c.replay_in_file_order.ensures.status

pub returns-clause-run : goal.returns-clause-run
returns-clause-run g c =
    let names = map string_bytes c.args.names.now in
    if_ok_more (λ (work : Work). IsOrderedRun c.args.bench c.args.out.now c.args.order.now c.in_ok-scripts.scripts.items
    (g.H.Shelf.files c.scripts_in_files.new.shelf) (task_of work))
    (λ (work : Work). IsRunOf c.args.bench c.args.out.now c.args.order.now names (g.H.Shelf.files c.args.shelf.now) (task_of work))
    c.replay_in_file_order.result (λ work run. record {
      commands = c.in_ok-scripts.scripts.items;
      told = c.in_ok-scripts.ensures.tells;
      run =
          subst (λ files. IsOrderedRun c.args.bench c.args.out.now c.args.order.now c.in_ok-scripts.scripts.items files (task_of work))
          c.in_ok-scripts.ensures.files run;
    })
    c.replay_in_file_order.ensures.run
