use Rattle.std.proofs.Common.{◌++◌, map, sym, subst, ◌∙◌}
use Rattle.std.specs.List.Sorted.{IsStrictlySortedBy}
use Rattle.cell_spec.specs.Ascending.{ascending}
use Rattle.cell_spec.specs.Edits.{name_of_edit}
use Rattle.cell_spec.specs.Names.{name_order}
use Rattle.cell_spec.proofs.Ascending.{sorted-ascending}
use Rattle.cell_spec.proofs.Orders.{total_names}
use Rattle.commit_book.proofs.Contested.{least_contested}
use Rattle.commit_book.proofs.Merging.{first_in_both, first_named}
use Rattle.commit_book.proofs.names.least_contested.Goals as goal

pub first_common-requires-clause-names : goal.first_common-requires-clause-names
first_common-requires-clause-names c =
    subst (IsStrictlySortedBy name_order) (sym c.claims.ensures)
    (sorted-ascending name_order total_names (map name_of_edit c.args.set.now.edits ++ c.args.set.now.guards))

pub first_common-requires-clause-others : goal.first_common-requires-clause-others
first_common-requires-clause-others c = subst (IsStrictlySortedBy name_order) (sym c.names.ensures)
    (sorted-ascending name_order total_names (map name_of_edit c.args.other.now.edits))

pub returns : goal.returns
returns c =
    c.first_common.ensures
    ∙ (λ i. first_in_both (c.claims.ensures i) (c.names.ensures i))
    ∙ first_named (ascending name_order (map name_of_edit c.args.set.now.edits ++ c.args.set.now.guards)) c.args.other.now.edits
    ∙ least_contested c.args.set.now.edits c.args.set.now.guards c.args.other.now.edits
