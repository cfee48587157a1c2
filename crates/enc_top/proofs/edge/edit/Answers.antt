use Rattle.std.proofs.lemmas.Result.{err_from_is_err_and}
use Rattle.enc_top.proofs.EdgeWork.{cell_ends, operation_done, operation_ends}
use Rattle.enc_top.proofs.edge.edit.Goals as goal

pub returns-in_err-bench-clause-asked : goal.returns-in_err-bench-clause-asked
returns-in_err-bench-clause-asked g c =
    let files = g.H.Shelf.files in
    let faults = g.H.Shelf.read_faults in
    let old = c.args.shelf.now in
    let refused = err_from_is_err_and c.from_residual.result c.from_residual.ensures.1 in
    rw (refused.1, refused.2) (cell_ends c.args.cell.now c.args.out.now c.args.operation (files old) (faults old) (faults c.read_bench.new.shelf)
    c.in_err-bench.field-0.0 c.in_err-bench.ensures.text c.in_err-bench.ensures.status c.in_err-bench.ensures.tells)

pub returns-in_err-left-clause-asked : goal.returns-in_err-left-clause-asked
returns-in_err-left-clause-asked g c =
    let files = g.H.Shelf.files in
    let faults = g.H.Shelf.read_faults in
    let old = c.args.shelf.now in
    let refused = err_from_is_err_and c.from_residual-in_err-left.result c.from_residual-in_err-left.ensures.1 in
    rw (refused.1, refused.2) (operation_ends c.args.cell.now c.args.out.now c.args.operation (files old) (faults old) (faults c.read_bench.new.shelf)
    c.in_ok-bench.bench c.in_ok-bench.ensures.tells c.in_err-left.field-0.0 c.in_err-left.ensures.judged c.in_err-left.ensures.ends)

pub returns-clause-asked : goal.returns-clause-asked
returns-clause-asked g c =
    operation_done c.args.cell.now c.args.out.now c.args.operation (g.H.Shelf.files c.args.shelf.now) (g.H.Shelf.read_faults c.args.shelf.now)
    (g.H.Shelf.read_faults c.read_bench.new.shelf) c.in_ok-bench.bench c.in_ok-bench.ensures.tells c.in_ok-left.left c.in_ok-left_work.field-0
    c.in_ok-left.ensures.judged c.in_ok-left.ensures.kept c.in_ok-left_work.ensures.read_back c.in_ok-left_work.ensures.task
