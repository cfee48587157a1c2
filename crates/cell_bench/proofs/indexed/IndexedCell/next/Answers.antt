use Rattle.std.proofs.Common.{sym, subst, ◌∙◌}
use Rattle.std.specs.List.{IsDistinct}
use Rattle.std.proofs.lemmas.Result.{err_from_is_err_and}
use Rattle.cell_bench.proofs.Counted.{full_when_fresh}
use Rattle.cell_spec.specs.Names.{same_subject}
use Rattle.cell_bench.proofs.Refused.{finds_inside}
use Rattle.cell_bench.proofs.ValidRows.{affected_once}
use Rattle.cell_bench.proofs.indexed.IndexedCell.next.Goals as goal

pub rejudge-requires-clause-found : goal.rejudge-requires-clause-found
rejudge-requires-clause-found g c =
    let set = c.args.edits.now in
    finds_inside c.writable_cells_are_readable.ensures c.formed_edits_find_their_records.ensures c.args.self.now c.self.inside.store set.edits set.guards
    set.nall c.self.view_is c.known-2.ensures c.known.ensures.parts c.requires.level c.requires.taken

pub returns-in_err-rejudged-clause-next : goal.returns-in_err-rejudged-clause-next
returns-in_err-rejudged-clause-next g c =
    let set = c.args.edits.now in
    let fit = finds_inside c.writable_cells_are_readable.ensures c.formed_edits_find_their_records.ensures c.args.self.now c.self.inside.store set.edits
    set.guards set.nall c.self.view_is c.known-2.ensures c.known.ensures.parts c.requires.level c.requires.taken in
    let refused = err_from_is_err_and c.from_residual-in_err-rejudged.result c.from_residual-in_err-rejudged.ensures.1 in
    rw (refused.1, refused.2) (full_when_fresh set.edits c.args.self.now c.self.inside.store c.self.view_is fit c.affected_list_is_set.ensures
    c.in_err-rejudged.field-0.0 c.in_err-rejudged.ensures.rejudged)

pub make-requires : goal.make-requires
make-requires g c =
    let set = c.args.edits.now in
    let fit = finds_inside c.writable_cells_are_readable.ensures c.formed_edits_find_their_records.ensures c.args.self.now c.self.inside.store set.edits
    set.guards set.nall c.self.view_is c.known-2.ensures c.known.ensures.parts c.requires.level c.requires.taken in
    subst (IsDistinct same_subject) (sym (c.as_slice.ensures ∙ c.in_ok-reach.ensures.judged))
    (affected_once c.affected_list_is_set.ensures set.edits c.self.inside.store fit)
