use Rattle.std.proofs.Common.{◌≤◌, arith, subst, sym}
use Rattle.cell_read.specs.Windows.{AreWindows}
use Rattle.cell_read.proofs.Windows.{windows_more}
use Rattle.cell_read.proofs.threads.windows_from.Goals as goal

pub loop-from-preserved : goal.loop-from-preserved
loop-from-preserved c =
    let from = c.loop-from.from in
    let to = c.window_end-to.result in
    let told = c.window_end-to.ensures in
    let rises : from ≤ to = omega (arith, told.0) in
    record {
      within = told.1;
      windows = subst (AreWindows c.args.start to) (sym c.in_ok-push.ensures.items)
          (windows_more c.args.start from to c.loop-from.windows.items c.loop-from.invariant.windows rises);
    }
