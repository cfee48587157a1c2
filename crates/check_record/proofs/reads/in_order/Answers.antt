use Rattle.std.proofs.Common.{◌∙◌}
use Rattle.check_record.proofs.NameKeys.{moved_names}
use Rattle.check_record.proofs.reads.in_order.Goals as goal

pub returns : goal.returns
returns c = c.ascending_names-2.ensures ∙ moved_names _ _ c.sort.ensures.permutation
