use Rattle.std.proofs.Common.{◌≡◌, ◌⊎◌, ◌-◌, ◌≤◌, take, Ok, Err, inl, inr, length, map, drop, string_bytes, refl, sym, ap, ◌∙◌, subst, arith}
use Rattle.std.proofs.lemmas.Result.{err_from_is_err_and}
use Rattle.call_files.specs.Task.{task_of}
use Rattle.call_files.specs.declared.work.Work.{Work}
use Rattle.std.proofs.lemmas.Bool.Decides.{nat_tests}
use Rattle.call_files.specs.Inputs.{CellIs, IsAmong, IsFile, Tells}
use Rattle.enc_top.specs.Inputs.{IsInputOf, IsReached, IsReachedInRun, IsRunOf, OutputIs, RunIs}
use Rattle.enc_top.specs.Outcome.{IsAskedBy, IsOutput}
use Rattle.enc_top.specs.Words.{Form, replay_among, replay_form}
use Rattle.s57_types.specs.declared.cell.Cell.{Cell}
use Rattle.enc_top.proofs.Answered.{asked_answer, asked_status, fits_replay}
use Rattle.call_files.proofs.Answered.{if_err_more, if_ok_more, status_of_more, tells_first, tells_last}
use Rattle.enc_top.proofs.FormWords.{behind, replay_words}
use Rattle.enc_top.proofs.top.replay_work.Goals as goal

pub returns-in_err-bench-clause-asked : goal.returns-in_err-bench-clause-asked
returns-in_err-bench-clause-asked g c =
    let names = take (length c.args.others.now - 3) (drop 3 c.args.others.now) in
    let low : 1 ≤ length names = (let empty = c.is_empty.ensures in let not = c.if-is_empty.false in grind (arith, nat_tests)) in
    let high : length names ≤ 16 = (let few = c.if-names-gt-SESSION_LIMIT.false in omega (arith, few)) in
    let words = replay_words c.args.others.now c.cell-item.result c.out-item.result c.order-item.result names c.in-len3-up.len_at_least
    c.cell-item.is c.out-item.is c.order-item.is (behind 3 c.args.others.now) low high in
    let form : Form = replay_form c.as_str.result.now (string_bytes c.out-item.result) (string_bytes c.order-item.result) (map string_bytes names) in
    let is : replay_among (map string_bytes c.args.others.now) ≡ form =
    words ∙ ap (λ cell. replay_form cell (string_bytes c.out-item.result) (string_bytes c.order-item.result) (map string_bytes names))
    (sym c.as_str.ensures.value) in
    let status = c.in_err-bench.field-0.0 in
    let refused = err_from_is_err_and c.from_residual.result c.from_residual.ensures.1 in
    rw (refused.1, refused.2) (subst (λ f. IsAskedBy ⊥ f (g.H.Shelf.files c.args.shelf.now) (g.H.Shelf.read_faults c.args.shelf.now)
    (g.H.Shelf.read_faults c.read_bench.new.shelf) (Err status)) (sym is)
    (asked_status ⊥ form (g.H.Shelf.files c.args.shelf.now) (g.H.Shelf.read_faults c.args.shelf.now)
    (g.H.Shelf.read_faults c.read_bench.new.shelf) status tt
    (fits_replay c.as_str.result.now (string_bytes c.out-item.result) (string_bytes c.order-item.result) (map string_bytes names) status)
    (status_of_more (λ n. n ≡ c.as_str.result.now) (IsInputOf form) status (λ n same. inl same) c.in_err-bench.ensures.status)
    (tells_first (λ (cell : Cell). cell) task_of (CellIs c.as_str.result.now) (OutputIs form) (IsFile c.as_str.result.now) (IsReached form)
    (g.H.Shelf.files c.args.shelf.now) (g.H.Shelf.read_faults c.args.shelf.now) (g.H.Shelf.read_faults c.read_bench.new.shelf) status
    (λ fs bad. inr (status, bad, refl)) (λ fs n is. inl is) c.in_err-bench.ensures.tells)))

pub returns-clause-asked : goal.returns-clause-asked
returns-clause-asked g c =
    let names = take (length c.args.others.now - 3) (drop 3 c.args.others.now) in
    let low : 1 ≤ length names = (let empty = c.is_empty.ensures in let not = c.if-is_empty.false in grind (arith, nat_tests)) in
    let high : length names ≤ 16 = (let few = c.if-names-gt-SESSION_LIMIT.false in omega (arith, few)) in
    let words = replay_words c.args.others.now c.cell-item.result c.out-item.result c.order-item.result names c.in-len3-up.len_at_least
    c.cell-item.is c.out-item.is c.order-item.is (behind 3 c.args.others.now) low high in
    let form : Form = replay_form c.as_str.result.now c.as_str-2.result.now c.as_str-3.result.now (map string_bytes names) in
    let is : replay_among (map string_bytes c.args.others.now) ≡ form =
    words ∙ (λ i. replay_form (sym c.as_str.ensures.value i) (sym c.as_str-2.ensures.value i) (sym c.as_str-3.ensures.value i)
    (map string_bytes names)) in
    let cell = c.in_ok-bench.bench in
    let tells = subst (λ files. Tells task_of (RunIs cell c.as_str-2.result.now c.as_str-3.result.now (map string_bytes names))
    (λ fs n. IsReachedInRun c.as_str-3.result.now (map string_bytes names) fs n) files (g.H.Shelf.read_faults c.read_bench.new.shelf)
    (g.H.Shelf.read_faults c.replay_scripts.new.shelf) c.replay_scripts.result)
    c.in_ok-bench.ensures.files c.replay_scripts.ensures.tells in
    subst (λ f. IsAskedBy ⊥ f (g.H.Shelf.files c.args.shelf.now) (g.H.Shelf.read_faults c.args.shelf.now)
    (g.H.Shelf.read_faults c.replay_scripts.new.shelf) c.replay_scripts.result) (sym is)
    (asked_answer ⊥ form (g.H.Shelf.files c.args.shelf.now) (g.H.Shelf.read_faults c.args.shelf.now)
    (g.H.Shelf.read_faults c.replay_scripts.new.shelf) c.replay_scripts.result tt
    (fits_replay c.as_str.result.now c.as_str-2.result.now c.as_str-3.result.now (map string_bytes names))
    (if_ok_more (λ (work : Work). IsRunOf cell c.as_str-2.result.now c.as_str-3.result.now (map string_bytes names)
    (g.H.Shelf.files c.read_bench.new.shelf) (task_of work))
    (λ (work : Work). IsOutput form (g.H.Shelf.files c.args.shelf.now) (task_of work)) c.replay_scripts.result
    (λ work ran. record {
      start = cell;
      told = c.in_ok-bench.ensures.tells;
      run =
          subst (λ files. IsRunOf cell c.as_str-2.result.now c.as_str-3.result.now (map string_bytes names) files (task_of work))
          c.in_ok-bench.ensures.files ran;
    }) c.replay_scripts.ensures.run)
    (if_err_more (λ n. (n ≡ c.as_str-3.result.now) ⊎ IsAmong (map string_bytes names) n) (IsInputOf form) c.replay_scripts.result
    (λ n other. inr other) c.replay_scripts.ensures.status)
    (tells_last task_of (RunIs cell c.as_str-2.result.now c.as_str-3.result.now (map string_bytes names)) (OutputIs form)
    (λ fs n. IsReachedInRun c.as_str-3.result.now (map string_bytes names) fs n) (IsReached form) (λ fs. CellIs c.as_str.result.now fs (Ok cell))
    (g.H.Shelf.files c.args.shelf.now) (g.H.Shelf.read_faults c.args.shelf.now) (g.H.Shelf.read_faults c.read_bench.new.shelf)
    (g.H.Shelf.read_faults c.replay_scripts.new.shelf) c.replay_scripts.result
    c.in_ok-bench.ensures.read_faults c.in_ok-bench.ensures.tells (λ fs answer good step. inl (cell, good, step))
    (λ fs n good near. inr (cell, good, near)) tells))
