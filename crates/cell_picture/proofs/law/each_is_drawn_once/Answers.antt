use Rattle.cell_picture.proofs.EachOnce.{once}
use Rattle.cell_picture.proofs.law.each_is_drawn_once.Goals as goal

pub returns : goal.returns
returns c = once
