use Rattle.std.proofs.Common.{◌++◌, ◌∙◌, ap}
use Rattle.cell_spec.specs.Ascending.{ascending}
use Rattle.cell_spec.specs.Names.{key_order}
use Rattle.rule_spec.specs.Reads.{read_set, record_keys}
use Rattle.check_pairs.proofs.reads.sorted_keys.Goals as goal

pub returns : goal.returns
unfolding read_set
returns c = λ cell first second.
    let before = c.in_ok-keys.ensures.items in
    let one = c.in_ok-push_vector_keys.ensures cell first.record_held in
    let two = c.in_ok-push_vector_keys-2.ensures cell second.record_held in
    c.ascending_keys.ensures ∙ ap (ascending key_order) (two ∙ ap (λ keys. keys ++ record_keys cell c.args.b.now.name)
    (one ∙ ap (λ keys. keys ++ record_keys cell c.args.a.now.name) before))
