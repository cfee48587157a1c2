use Rattle.std.proofs.Common.{◌≡◌, Some, cond, is_eq, subst}
use Rattle.std.specs.BTreeMap.{get}
use Rattle.std.specs.declared.cmp.Ordering.{Ordering}
use Rattle.cell_spec.specs.declared.key.Subject.{Subject}
use Rattle.cell_bench.proofs.ready.put_place.Goals as goal

pub returns : goal.returns
returns c =
    subst (λ (order : Subject → Subject → Ordering). (s : Subject)
    → get order c.insert.new.self s ≡ cond (is_eq (order c.args.subject s)) (Some c.args.place) (get order c.args.places.now s))
    (λ i a b. c.orders_are_by_parts.ensures.subjects a b i) c.in_ok-insert.ensures.updates.0
