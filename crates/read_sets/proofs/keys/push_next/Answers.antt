use Rattle.std.proofs.Common.{◌∷◌, ◌++◌, [], subst, sym, ◌∙◌}
use Rattle.cell_spec.specs.declared.key.Key.TheVariants.{Name}
use Rattle.read_sets.specs.Rising.{IsRising}
use Rattle.read_sets.proofs.Rising.{rises_on, stays}
use Rattle.read_sets.proofs.keys.push_next.Goals as goal

pub returns-in_ok-push-in-Less : goal.returns-in_ok-push-in-Less
returns-in_ok-push-in-Less c = λ those rising is.
    let name = c.args.name in
    subst (IsRising (those ++ Name name ∷ []) name) (sym c.in_ok-push-in-Less.ensures.items)
    (rises_on those c.args.before name c.args.keys.now.items rising
    (sym (c.orders_are_by_parts.ensures.names c.args.before name) ∙ sym c.cmp.ensures ∙ c.in-Less.is))

pub returns-in-Equal : goal.returns-in-Equal
returns-in-Equal c = λ those rising is.
    stays those c.args.before c.args.name c.args.keys.now.items rising
    (sym (c.orders_are_by_parts.ensures.names c.args.before c.args.name) ∙ sym c.cmp.ensures ∙ c.in-Equal.is)
