use Rattle.rayon.proofs.ToStd.{slice-map}
use Rattle.cell_bench.specs.Singles.{reads_row}
use Rattle.recheck.proofs.loading.rows_read.Goals as goal

pub returns : goal.returns
returns g c =
    let told = c.in_ok-rows.ensures in
    slice-map told.0 c.args.subjects.now told.1 (reads_row c.args.look.now) c.in_ok-rows.rows.items told.2
