use Rattle.std.proofs.Common.{◌≤◌, length, sym, ◌∙◌, arith}
use Rattle.update_apply.proofs.FileSteps.{edits-end}
use Rattle.update_apply.proofs.file.read_following.Goals as goal

pub returns : goal.returns
returns c = let bytes = c.args.update.now.bytes.now in let past : length bytes ≤ c.loop-at.at = omega arith in
    sym c.loop-at.invariant.walk
    ∙ edits-end c.args.update.now.look.now c.args.level c.loop-at.number c.loop-at.earlier bytes c.loop-at.at past
