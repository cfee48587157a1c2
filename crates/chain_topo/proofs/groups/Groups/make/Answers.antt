use Rattle.std.proofs.Common.{◌≡◌, List, map, length, sym, ap, subst, ◌∙◌}
use Rattle.std.specs.List.{zip}
use Rattle.std.specs.List.Sorted.{IsSorted, IsStrictlySortedBy}
use Rattle.std.proofs.lemmas.List.{length-map}
use Rattle.chain_topo.specs.Listed.{pair_order}
use Rattle.cell_spec.proofs.Ascending.{sorted-ascending}
use Rattle.chain_topo.proofs.Orders.{exact_pairs, total_pairs}
use Rattle.chain_topo.proofs.Parts.{zip-parts, keys-rise}
use Rattle.chain_topo.proofs.groups.Groups.make.Goals as goal

-- the pairs in the vector, cut into their keys
keys_are : {X K : Type 0} (key : X → K) (keys : List K) (held pairs : List X) → keys ≡ map key held → held ≡ pairs → keys ≡ map key pairs
keys_are key keys held pairs e f = e ∙ ap (map key) f

pub distinct-pairs-requires : goal.distinct-pairs-requires
distinct-pairs-requires g c = record { exact = exact_pairs g.K.Ord.cmp g.V.Ord.cmp c.requires.exact_keys c.requires.exact_values }

pub returns : goal.returns
returns g c =
    let pairs = c.distinct-pairs.result.items in
    (λ i. zip (keys_are (λ p. p.0) _ _ pairs c.in_ok-keys.ensures c.deref.ensures.value i)
    (keys_are (λ p. p.1) _ _ pairs c.in_ok-values.ensures c.deref-2.ensures.value i))
    ∙ zip-parts pairs ∙ c.distinct-pairs.ensures

pub invariant_of-result : goal.invariant_of-result
invariant_of-result g c =
    let keys = g.K.Ord.cmp in
    let values = g.V.Ord.cmp in
    let order = pair_order keys values in
    let pairs = c.distinct-pairs.result.items in
    let are = keys_are (λ p. p.0) _ _ pairs c.in_ok-keys.ensures c.deref.ensures.value in
    let others = keys_are (λ p. p.1) _ _ pairs c.in_ok-values.ensures c.deref-2.ensures.value in
    let sorted = subst (IsStrictlySortedBy order) (sym c.distinct-pairs.ensures)
    (sorted-ascending order (total_pairs keys values g.met.K.Ord.total g.met.V.Ord.total) c.args.pairs.items) in (
      ap length are ∙ length-map pairs _ ∙ sym (ap length others ∙ length-map pairs _),
      subst (IsSorted keys) (sym are) (keys-rise keys values g.met.K.Ord.total pairs sorted),
    )
