use Rattle.std.proofs.Common.{sym, subst}
use Rattle.draw_top.specs.Drawing.{CountsFaults}
use Rattle.draw_top.proofs.Causes.{counts_of_bytes, counts_of_refusal}
use Rattle.draw_top.proofs.drawing.draw_file.Goals as goal

pub returns-in-Ok-clause-counted : goal.returns-in-Ok-clause-counted
returns-in-Ok-clause-counted g c puts =
    counts_of_bytes _ _ puts c.deref.result.now c.draw_bytes.result c.in-Ok.ensures.kept c.draw_bytes.ensures.err

pub returns-in-Err-clause-counted : goal.returns-in-Err-clause-counted
returns-in-Err-clause-counted g c puts =
    let reads = g.H.Shelf.read_faults in
    subst (CountsFaults (reads c.args.shelf.now) (reads c.read_file.new.shelf) puts puts) (sym c.refused.ensures)
    (counts_of_refusal (reads c.args.shelf.now) (reads c.read_file.new.shelf) puts c.in-Err.refusal c.in-Err.ensures.counted)
