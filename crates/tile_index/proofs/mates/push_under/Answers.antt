use Rattle.std.proofs.Common.{◌≡◌, ◌||◌, is_lt, subst, ap, ◌∙◌, Ordering}
use Rattle.s57_types.specs.declared.name.Kind.TheVariants.{Vi}
use Rattle.s57_types.specs.declared.name.RecName.{RecName}
use Rattle.cell_spec.specs.Names.{name_order}
use Rattle.pair_set.specs.Pairs.{has_pair, is_among}
use Rattle.tile_index.specs.Tilings.{tile_order}
use Rattle.finding_laws.proofs.LeastName.{none_below}
use Rattle.tile_index.proofs.mates.push_under.Goals as goal

pub seconds-name-items-requires : goal.seconds-name-items-requires
seconds-name-items-requires c = λ n. ap is_lt (c.orders_are_by_parts.ensures.names n (record { kind = Vi; id = 0 })) ∙ none_below n

pub loop-name-init : goal.loop-name-init
loop-name-init c = λ n.
    let among = subst (λ (order : RecName → RecName → Ordering). is_among order c.seconds-name-items.result n ≡
    has_pair tile_order order c.args.in_tiles.now c.args.tile n)
    (λ i a b. c.orders_are_by_parts.ensures.names a b i) (c.seconds-name-items.ensures.among n) in
    ap (λ b. is_among name_order c.args.names.now.items n || b)
    (ap (λ those. is_among name_order those n) c.into_iter-name-iterator.ensures.into_iter_gives ∙ among)
