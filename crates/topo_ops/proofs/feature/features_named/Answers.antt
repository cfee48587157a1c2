use Rattle.std.proofs.Common.{◌++◌, sym, ◌∙◌}
use Rattle.std.specs.Prelude.{option_to_list}
use Rattle.s57_types.specs.declared.name.Kind.TheVariants.{Vi}
use Rattle.s57_types.specs.declared.name.RecName.{RecName}
use Rattle.rule_spec.specs.Records.{feature_named}
use Rattle.check_words.proofs.FoundItems.{found_more}
use Rattle.topo_ops.proofs.feature.features_named.Goals as goal

-- what stands past a list's end
no_name : RecName
no_name = record { kind = Vi; id = 0 }

pub loop-name-preserved : goal.loop-name-preserved
unfolding no_name
loop-name-preserved g c =
    c.in_ok-push_found.ensures
    ∙ (λ i. c.loop-name.invariant i ++ option_to_list (c.feature_named.ensures i))
    ∙ sym (found_more (feature_named (g.B.Look.cell c.args.look.now)) c.args.names.now c.loop-name.name-index no_name c.loop-name-test.true)
