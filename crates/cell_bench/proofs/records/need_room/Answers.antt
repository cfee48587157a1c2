use Rattle.std.proofs.Common.{◌≡◌, List, None, filter_map, sym, ap, ◌∙◌}
use Rattle.cell_spec.specs.declared.edit.Edit.{Edit}
use Rattle.history_spec.specs.Steps.{edit_refusal, first_of}
use Rattle.cell_bench.proofs.Refused.{finds, found_when_unrefused}
use Rattle.cell_bench.proofs.records.need_room.Goals as goal

pub room_refusal-requires-clause-found : goal.room_refusal-requires-clause-found
room_refusal-requires-clause-found g c =
    let cell = c.args.store.now in
    let set = c.args.set.now in
    let none : first_of (filter_map (edit_refusal cell) set.edits) ≡ None =
    ap (λ (edits : List Edit). first_of (filter_map (edit_refusal cell) edits)) (sym c.edits.ensures) ∙ sym c.first_edit_refusal.ensures.refusal
    ∙ c.in_default.is in
    finds c.writable_cells_are_readable.ensures c.formed_edits_find_their_records.ensures cell set.edits set.guards set.nall
    c.known-2.ensures c.known.ensures.parts c.requires
    (found_when_unrefused cell set.edits none)
