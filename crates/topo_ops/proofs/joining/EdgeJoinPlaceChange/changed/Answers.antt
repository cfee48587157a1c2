use Rattle.std.proofs.Common.{◌++◌, ◌∷◌, [], get_or, sym, ◌∙◌}
use Rattle.s57_types.specs.declared.name.Kind.TheVariants.{Vi}
use Rattle.s57_types.specs.declared.record.Spot.{Spot}
use Rattle.topo_ops.specs.Join.{joined_places}
use Rattle.topo_ops.proofs.Pairs.{joined_more}
use Rattle.topo_ops.proofs.joining.EdgeJoinPlaceChange.changed.Goals as goal

-- what stands past a list's end
no_spot : Spot
no_spot = record { to = record { kind = Vi; id = 0 }; ornt = 0; usag = 0; mask = 0 }

pub loop-spot-preserved : goal.loop-spot-preserved
unfolding no_spot
loop-spot-preserved c =
    c.in_ok-push_kept.ensures
    ∙ (λ i. c.loop-spot.invariant i ++ joined_places c.args.self.now.other (get_or c.args.places.now c.loop-spot.spot-index no_spot ∷ []))
    ∙ sym (joined_more c.args.self.now.other c.args.places.now c.loop-spot.spot-index no_spot c.loop-spot-test.true)
