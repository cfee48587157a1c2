use Rattle.std.proofs.lemmas.Result.{err_from_is_err_and}
use Rattle.cell_bench.proofs.Counted.{full_when_fresh}
use Rattle.cell_bench.proofs.Refused.{finds_inside}
use Rattle.cell_bench.proofs.indexed.IndexedCell.next_judged.Goals as goal

pub rejudge_by-requires-clause-found : goal.rejudge_by-requires-clause-found
rejudge_by-requires-clause-found c =
    let set = c.args.edits.now in
    finds_inside c.writable_cells_are_readable.ensures c.formed_edits_find_their_records.ensures c.args.self.now c.self.inside.store set.edits set.guards
    set.nall c.self.view_is c.known-2.ensures c.known.ensures.parts c.requires.level c.requires.taken

pub returns-in_err-rejudged : goal.returns-in_err-rejudged
returns-in_err-rejudged c =
    let set = c.args.edits.now in
    let fit = finds_inside c.writable_cells_are_readable.ensures c.formed_edits_find_their_records.ensures c.args.self.now c.self.inside.store set.edits
    set.guards set.nall c.self.view_is c.known-2.ensures c.known.ensures.parts c.requires.level c.requires.taken in
    let refused = err_from_is_err_and c.from_residual.result c.from_residual.ensures.1 in
    rw (refused.1, refused.2) (full_when_fresh set.edits c.args.self.now c.self.inside.store c.self.view_is fit c.affected_list_is_set.ensures
    c.in_err-rejudged.field-0.0 c.in_err-rejudged.ensures)
