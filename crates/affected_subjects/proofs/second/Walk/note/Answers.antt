use Rattle.std.proofs.Common.{not, true, cond, is_eq, refl, sym, ◌∙◌}
use Rattle.std.specs.BTreeSet.{contains}
use Rattle.affected_subjects.proofs.Passed.{noted_by}
use Rattle.affected_subjects.proofs.second.Walk.note.Goals as goal

pub returns-clause-new : goal.returns-clause-new
returns-clause-new c =
    c.in_ok-insert.ensures.added ∙ (λ i. not (contains (λ a b. c.orders_are_by_parts.ensures.names a b i) c.args.self.now.passed c.args.name))

pub returns-clause-noted : goal.returns-clause-noted
returns-clause-noted c =
    let names = c.orders_are_by_parts.ensures.names in
    noted_by c.args.self.now (record { passed = c.insert.new.self; pairs = c.args.self.now.pairs }) c.args.name c.in_ok-insert.field-0 refl
    (λ m.
    (λ i. contains (λ a b. sym (names a b) i) c.insert.new.self m)
    ∙ c.in_ok-insert.ensures.updates.0 m
    ∙ (λ i. cond (is_eq (names c.args.name m i)) true (contains (λ a b. names a b i) c.args.self.now.passed m)))
    c.in_ok-insert.ensures.unchanged
