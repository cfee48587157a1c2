use Rattle.std.proofs.Common.{refl}
use Rattle.check_group1.proofs.side.findings_of_side.Goals as goal

pub returns : goal.returns
returns c = c.findings_near.ensures c.args.look.now _ refl refl c.find_pointers.ensures
