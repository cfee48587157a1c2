use Rattle.std.proofs.Common.{subst}
use Rattle.edit_sets.specs.FormFault.{IsFormed}
use Rattle.affected_subjects.specs.EditedCells.{KnowsBearers}
use Rattle.affected_subjects.proofs.edited.Edited.make.Goals as goal

pub invariant_of-result : goal.invariant_of-result
invariant_of-result g c =
    let store = c.args.store.now in
    let edits = c.args.edits.now.edits in
    let guards = c.args.edits.now.guards in
    let formed = subst (λ nall. IsFormed nall edits guards) c.requires.level c.known.ensures.parts in
    record {
      found = c.formed_edits_find_their_records.ensures store edits guards (c.writable_cells_are_readable.ensures store c.known-2.ensures)
          formed c.requires.found;
      reads = c.requires.reads;
      bearers =
          subst (λ keys. KnowsBearers keys edits store c.in_ok-borne.borne) c.requires.touched
          (subst (λ set. KnowsBearers c.args.touched.now set.edits store c.in_ok-borne.borne) c.in_ok-answers.ensures c.in_ok-borne.ensures.known);
    }
