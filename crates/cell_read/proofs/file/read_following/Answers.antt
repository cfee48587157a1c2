use Rattle.std.proofs.Common.{◌≤◌, length, sym, ◌∙◌, arith}
use Rattle.cell_read.proofs.FileSteps.{following-end}
use Rattle.cell_read.proofs.file.read_following.Goals as goal

pub returns : goal.returns
returns c = let past : length c.args.bytes.now ≤ c.loop-at.at = omega arith in
    sym c.loop-at.invariant.walk ∙ following-end c.loop-at.number c.loop-at.reading.cell c.args.bytes.now c.loop-at.at past
