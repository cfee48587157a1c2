use Rattle.std.proofs.Common.{◌∙◌, ◌++◌, ap}
use Rattle.cell_spec.specs.Ascending.{ascending}
use Rattle.cell_spec.specs.Names.{key_order}
use Rattle.rule_spec.specs.Reads.{read_set, record_keys}
use Rattle.check_record.proofs.reads.vector_reads.Goals as goal

pub returns : goal.returns
unfolding read_set
returns c = λ cell found.
    c.ascending_keys.ensures ∙ ap (ascending key_order) (c.in_ok-push_vector_keys.ensures cell found
    ∙ ap (λ xs. xs ++ record_keys cell c.args.name) c.in_ok-keys.ensures.items)
