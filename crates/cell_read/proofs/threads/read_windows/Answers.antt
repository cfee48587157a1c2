use Rattle.std.proofs.Common.{ap, ◌∙◌}
use Rattle.std.specs.Prelude.{IfOk}
use Rattle.rayon.proofs.ToStd.{slice-AllZip}
use Rattle.cell_read.specs.Windows.{AreKeptFrom}
use Rattle.cell_read.specs.declared.threads.Window.{Window}
use Rattle.cell_read.proofs.Windows.{windows_kept}
use Rattle.cell_read.proofs.threads.read_windows.Goals as goal

pub returns : goal.returns
returns g c =
    let windows = c.args.windows.now in
    let told = c.in_ok-read.ensures in
    let chain = rw (c.map.ensures.base, c.map.ensures.f) at told.1 in
    let each = slice-AllZip chain.0 windows (chain.1 ∙ ap (λ it. it.slice.now) c.with_min_len.ensures.base ∙ c.par_iter.ensures)
    (λ (window : Window) answer. IfOk answer (λ recs. AreKeptFrom c.args.nall c.args.bytes.now window.from window.to recs.items)) told.0 chain.2 in
    windows_kept c.args.nall c.args.bytes.now _ windows told.0 each c.in_ok-read.read told.2
