use Rattle.std.proofs.Common.{◌∙◌}
use Rattle.std.specs.BTreeSet.{contains}
use Rattle.affected_subjects.proofs.second.Walk.has_passed.Goals as goal

pub returns : goal.returns
returns c = c.contains.ensures ∙ (λ i. contains (λ a b. c.orders_are_by_parts.ensures.names a b i) c.args.self.now.passed c.args.name)
