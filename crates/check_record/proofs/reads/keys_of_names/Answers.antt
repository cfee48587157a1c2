use Rattle.std.proofs.Common.{◌≡◌, ◌++◌, map, ap, ◌∙◌}
use Rattle.cell_spec.specs.Ascending.{ascending}
use Rattle.cell_spec.specs.Names.{name_order}
use Rattle.cell_spec.specs.declared.key.Key.TheVariants.{Name}
use Rattle.check_record.proofs.NameKeys.{name_keys}
use Rattle.check_record.proofs.reads.keys_of_names.Goals as goal

pub returns : goal.returns
returns c =
    let names = c.args.names.items in
    let same : c.as_slice.result.now ≡ ascending name_order names = cc (c.in_ok-names.ensures) in
    c.of_vec.ensures
    ∙ c.in_ok-push_name_keys.ensures
    ∙ ap (λ xs. xs ++ map Name c.as_slice.result.now) c.in_ok-keys.ensures.items
    ∙ ap (map Name) same
    ∙ name_keys names
