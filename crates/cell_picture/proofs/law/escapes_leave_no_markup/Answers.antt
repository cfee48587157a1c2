use Rattle.cell_picture.proofs.Escaping.{clean}
use Rattle.cell_picture.proofs.law.escapes_leave_no_markup.Goals as goal

pub returns : goal.returns
returns c = clean
