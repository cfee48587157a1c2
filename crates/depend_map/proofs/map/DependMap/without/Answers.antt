use Rattle.std.proofs.Common.{◌≡◌, subst, sym}
use Rattle.std.specs.declared.cmp.Ordering.{Ordering}
use Rattle.cell_spec.specs.declared.key.Subject.{Subject}
use Rattle.row_spec.specs.Rows.{IsAscending, without_key}
use Rattle.depend_map.specs.Readers.{AreReadersOf}
use Rattle.depend_map.proofs.Changed.{took_readers}
use Rattle.depend_map.proofs.map.DependMap.without.Goals as goal

pub invariant_of-result : goal.invariant_of-result
invariant_of-result c =
    let rows = c.self.inside.reads in
    let both = subst (λ (order : Subject → Subject → Ordering). IsAscending order rows × (c.take.new.self ≡ without_key order rows c.args.subject))
    (λ i a b. c.orders_are_by_parts.ensures.subjects a b i)
    (c.len-count.ensures.ascending, c.in_ok-take.ensures.ok) in
    subst (λ those. AreReadersOf those c.replace_keys.new.readers) (sym both.1)
    (took_readers rows c.self.inside.readers c.replace_keys.new.readers c.args.subject both.0 c.self.invariant (λ k s. c.in_ok-replace_keys.ensures k s))
