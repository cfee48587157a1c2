use Rattle.std.specs.BTreeSet.{contains}
use Rattle.cell_spec.specs.Names.{name_order}
use Rattle.affected_subjects.proofs.second.Walk.set_out.Goals as goal

pub returns : goal.returns
returns c = λ i. record { passed = λ n. contains name_order (record { keys = c.new.ensures.empty i }) n; pairs = c.in_ok-with_capacity.ensures.items i }
