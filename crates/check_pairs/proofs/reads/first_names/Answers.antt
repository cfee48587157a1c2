use Rattle.std.proofs.Common.{◌||◌, ◌++◌, [], List, map, sym, ap, ◌∙◌}
use Rattle.std.specs.List.{list_any}
use Rattle.s57_types.specs.declared.record.End.{End}
use Rattle.cell_spec.specs.declared.key.Key.TheVariants.{Name}
use Rattle.check_pairs.proofs.Keys.{edge_keys, two_ends, with_ends}
use Rattle.check_pairs.proofs.reads.first_names.Goals as goal

pub returns-in-len2-clause-edge : goal.returns-in-len2-clause-edge
returns-in-len2-clause-edge c = λ cell part g.
    let name = c.args.part.now.name in
    with_ends (g (Name c.in_order.result.0)) (g (Name c.in_order.result.1)) (g (Name name)) _ _ (c.in_order.ensures (λ n. g (Name n)))
    ∙ ap (λ ends. g (Name name) || ends) (two_ends g c.as_slice.result.now _ c.in-len2.len_at_least c.in-len2.len_below
    ∙ ap (λ (ends : List End). list_any g (map (λ (end : End). Name end.to) ends ++ [])) c.as_slice.ensures)
    ∙ sym (ap (list_any g) (edge_keys cell name c.args.part.now.record.now part.record_held (sym c.is_edge.ensures ∙ c.if-not-is_edge.false)))
