use Rattle.std.proofs.Common.{subst, sym}
use Rattle.std.specs.List.Sorted.{IsStrictlySortedBy}
use Rattle.cell_spec.specs.Names.{name_order}
use Rattle.cell_read.proofs.NamesInOrder.{none_ascends}
use Rattle.cell_read.proofs.names.Names.new.Goals as goal

pub returns-clause-ascends : goal.returns-clause-ascends
returns-clause-ascends c = subst (IsStrictlySortedBy name_order) (sym c.new.ensures.items) none_ascends
