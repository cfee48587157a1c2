use Rattle.std.proofs.Common.{◌≡◌, None, sym, ap, subst, ◌∙◌}
use Rattle.s57_types.specs.declared.cell.Cell.{Cell}
use Rattle.cell_spec.specs.Writable.{IsWritable}
use Rattle.edit_sets.specs.FormFault.{form_fault}
use Rattle.answer_laws.specs.EditedAnswers.{FindTheirRecords}
use Rattle.history_spec.specs.Steps.{state_refusal}
use Rattle.commit_book.specs.Books.{BookState, history_of}
use Rattle.commit_book.proofs.Ready.{finds, found_where_taken, level_now, taken_where_unrefused}
use Rattle.commit_book.proofs.book.Book.taken.Goals as goal

pub returns-clause-writable : goal.returns-clause-writable
returns-clause-writable c = subst IsWritable (c.self.invariant.0.cell_is ∙ ap (λ (b : BookState). (history_of b).cell) c.self.view_is)
    c.known-2.ensures.writable

pub returns-clause-found : goal.returns-clause-found
returns-clause-found c = λ none.
    let cell = c.self.invariant.0.cell_is ∙ ap (λ (b : BookState). (history_of b).cell) c.self.view_is in
    let level = c.requires ∙ sym (ap (λ (b : BookState). b.opening.head.nall) c.self.view_is) ∙ level_now c.self.inside.opening.value
    c.self.inside.entries.items c.self.inside.bench c.self.inside.accepted.items c.self.invariant.0 in
    subst (FindTheirRecords c.args.set.now.edits) cell
    (finds c.writable_cells_are_readable.ensures c.formed_edits_find_their_records.ensures c.self.inside.bench c.args.set.now c.known-2.ensures.writable
    c.known.ensures.parts level
    (found_where_taken c.self.inside.bench c.args.set.now (taken_where_unrefused c.refusals_tell_what_a_cell_takes.ensures c.self.inside.bench
    c.args.set.now (ap (λ (d : Cell). state_refusal d c.args.set.now.edits) cell ∙ none))))

pub returns-clause-lines : goal.returns-clause-lines
returns-clause-lines c = λ none.
    let cell = c.self.invariant.0.cell_is ∙ ap (λ (b : BookState). (history_of b).cell) c.self.view_is in
    let level = c.requires ∙ sym (ap (λ (b : BookState). b.opening.head.nall) c.self.view_is) ∙ level_now c.self.inside.opening.value
    c.self.inside.entries.items c.self.inside.bench c.self.inside.accepted.items c.self.invariant.0 in
    c.taken_edits_have_lines.ensures c.self.inside.bench c.args.set.now.edits c.args.set.now.guards c.known-2.ensures.writable
    (subst (λ nall. form_fault nall c.args.set.now.edits c.args.set.now.guards ≡ None) level c.known.ensures.form)
    (taken_where_unrefused c.refusals_tell_what_a_cell_takes.ensures c.self.inside.bench c.args.set.now
    (ap (λ (d : Cell). state_refusal d c.args.set.now.edits) cell ∙ none))
