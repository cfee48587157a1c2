use Rattle.std.proofs.Common.{◌≤◌, All, refl, subst, sym, length}
use Rattle.rayon.proofs.ListFacts.{IfOk-then}
use Rattle.file_spec.specs.CellRecords.{empty_cell}
use Rattle.cell_read.specs.Windows.{AreWindows, records_in}
use Rattle.cell_read.specs.declared.threads.Window.{Window}
use Rattle.cell_read.proofs.Windows.{followed, listed, within}
use Rattle.cell_read.proofs.threads.read_following.Goals as goal

pub read_windows-requires-after_bounds : goal.read_windows-requires-after_bounds
read_windows-requires-after_bounds g c κs bounds =
    let end = length c.args.bytes.now in
    subst (All (λ (w : Window). w.to ≤ end)) (sym c.deref.ensures.value) (within c.args.start end c.in_ok-windows.windows.items c.in_ok-windows.ensures)

pub joined-requires : goal.joined-requires
joined-requires g c =
    let end = length c.args.bytes.now in
    let windows = subst (AreWindows c.args.start end) (sym c.deref.ensures.value) c.in_ok-windows.ensures in
    listed c.args.head.nall c.args.start end c.args.bytes.now (records_in c.in_ok-read.read.items) (c.in_ok-read.ensures c.args.start end windows)

pub returns : goal.returns
returns g c =
    let bytes = c.args.bytes.now in
    let windows = subst (AreWindows c.args.start (length bytes)) (sym c.deref.ensures.value) c.in_ok-windows.ensures in
    IfOk-then c.joined.result _ _ c.joined.ensures (λ cell added.
    followed c.args.head.nall 4 c.args.start bytes (empty_cell c.args.head) cell (records_in c.in_ok-read.read.items) refl
    (c.in_ok-read.ensures c.args.start (length bytes) windows) added)
