use Rattle.std.proofs.Common.{SFits, w32, rules, subst}
use Rattle.std.proofs.lemmas.Result.{err_from_is_err_and}
use Rattle.geometry_spec.specs.Points.{Point}
use Rattle.enc_top.specs.Outcome.{IsProbeIn}
use Rattle.call_files.specs.Task.{task_of}
use Rattle.enc_top.proofs.ProbedWork.{passed_is, probe_done, probe_ends}
use Rattle.enc_top.proofs.probed.probe_at.Goals as goal

pub returns-in_err-bench-clause-asked : goal.returns-in_err-bench-clause-asked
returns-in_err-bench-clause-asked g c = let refused = err_from_is_err_and c.from_residual.result c.from_residual.ensures.1 in
    rw (refused.1, refused.2) (probe_ends c.args.cell.now (c.args.y, c.args.x) (g.H.Shelf.files c.args.shelf.now) (g.H.Shelf.read_faults c.args.shelf.now)
    (g.H.Shelf.read_faults c.read_bench.new.shelf) c.in_err-bench.field-0.0 c.in_err-bench.ensures.text c.in_err-bench.ensures.status
    c.in_err-bench.ensures.tells)

pub returns-in_err-probed_work-clause-asked : goal.returns-in_err-probed_work-clause-asked
returns-in_err-probed_work-clause-asked g c =
    let refused = err_from_is_err_and c.from_residual-in_err-probed_work.result c.from_residual-in_err-probed_work.ensures.1 in
    rw (refused.1, refused.2) tt

pub returns-clause-asked : goal.returns-clause-asked
returns-clause-asked g c =
    let files = g.H.Shelf.files in
    let faults = g.H.Shelf.read_faults in
    let old = c.args.shelf.now in
    let latitude : SFits w32 c.args.y = search rules in
    let longitude : SFits w32 c.args.x = search rules in
    let work = c.in_ok-probed_work.field-0 in
    let probe = subst (λ (p : Point). IsProbeIn c.in_ok-bench.bench p (task_of work)) (passed_is c.args.y c.args.x latitude longitude)
    c.in_ok-probed_work.ensures in
    probe_done c.args.cell.now (c.args.y, c.args.x) (files old) (faults old) (faults c.read_bench.new.shelf) c.in_ok-bench.bench work
    c.in_ok-bench.ensures.tells probe
