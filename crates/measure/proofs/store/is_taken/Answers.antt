use Rattle.std.proofs.Common.{subst}
use Rattle.edit_sets.specs.FormFault.{IsFormed}
use Rattle.measure.proofs.OneEdit.{one_edit_is_taken}
use Rattle.measure.proofs.store.is_taken.Goals as goal

pub returns-in-Fe : goal.returns-in-Fe
returns-in-Fe g c taken =
    let set = c.args.set.now in
    one_edit_is_taken c.args.store.now set.edits c.args.edit.now c.in-Set.rec set.guards c.requires.only c.in-Set.is
    c.known-2.ensures (subst (λ n. IsFormed n set.edits set.guards) c.requires.level c.known.ensures.parts)
    c.formed_edits_find_their_records.ensures c.writable_cells_are_readable.ensures c.counts_after_edits.ensures
    c.name-name.result c.name-name.ensures c.in-Fe.is c.get.result c.get.ensures.found c.is_some.result c.is_some.ensures taken
