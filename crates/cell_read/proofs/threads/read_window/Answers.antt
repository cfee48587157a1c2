use Rattle.std.proofs.Common.{◌∷◌, ◌++◌, ◌+◌, [], cond, not, subst, sym, refl, ap, ◌∙◌}
use Rattle.cell_read.specs.Windows.{AreKeptFrom}
use Rattle.cell_read.proofs.Windows.{kept_more}
use Rattle.cell_read.proofs.threads.read_window.Goals as goal

pub loop-at-init : goal.loop-at-init
loop-at-init c =
    subst (AreKeptFrom c.args.nall c.args.bytes.now c.args.window.from c.args.window.from) (sym c.in_ok-recs.ensures.items) refl

pub loop-at-preserved : goal.loop-at-preserved
loop-at-preserved c =
    let bytes = c.args.bytes.now in
    let from = c.args.window.from in
    let recs = c.loop-at.recs.items in
    let frame = c.in_ok-frame.frame in
    let rec = c.in_ok-rec.rec in
    let more = c.push.ensures.items ∙ ap (λ b. cond b (recs ++ rec ∷ []) recs) (c.is_err.ensures.negation ∙ ap not c.if-is_err.false) in
    subst (λ at. AreKeptFrom c.args.nall bytes from at c.push.new.self.items) (ap (λ n. c.loop-at.at + n) (sym c.length-at.ensures))
    (subst (AreKeptFrom c.args.nall bytes from (c.loop-at.at + frame.length)) (sym more)
    (kept_more c.args.nall bytes from c.loop-at.at recs frame rec c.loop-at.invariant (sym c.in_ok-frame.ensures.exact) c.in_ok-rec.ensures
    (sym c.if-not-is_short.ensures)))
