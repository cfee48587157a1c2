use Rattle.std.proofs.Common.{List, [], ◌++◌, cond, map, ap, ◌∙◌}
use Rattle.std.specs.Prelude.{◌==◌}
use Rattle.cell_spec.specs.declared.key.Key.{Key}
use Rattle.cell_spec.specs.Ascending.{ascending}
use Rattle.cell_spec.specs.Names.{key_order}
use Rattle.near_records.specs.Near.{answer_held}
use Rattle.check_record.specs.EndKeys.{partner_keys}
use Rattle.check_record.proofs.ReadSets.{ends_by_answers, feature_set}
use Rattle.check_record.proofs.reads.feature_reads.Goals as goal

pub returns : goal.returns
returns c = λ cell name found named near.
    let feature = c.args.feature.now in
    let keys_by : List Key → List Key = λ ends.
    ascending key_order ((ascending key_order (cond (feature.prim == 3) ends []) ++ c.args.named.now) ++ partner_keys feature) in
    c.ascending_keys.ensures
    ∙ ap (ascending key_order) c.in_ok-keys.ensures
    ∙ ap keys_by (ends_by_answers cell name feature c.args.named.now c.answers.result.now named (ap (map answer_held) c.answers.ensures ∙ near.answers))
    ∙ feature_set cell name feature found c.args.named.now named
