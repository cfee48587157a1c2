use Rattle.std.proofs.Common.{arith, length, subst, ap}
use Rattle.edit_sets.specs.FormFault.{IsFormed}
use Rattle.cell_overlay.specs.Laid.{AreMerged}
use Rattle.cell_overlay.proofs.Laid.{fewer_lists}
use Rattle.cell_overlay.proofs.overlay.Overlay.over_keys.Goals as goal

pub returns-in_err-head-clause-steps : goal.returns-in_err-head-clause-steps
returns-in_err-head-clause-steps g c =
    let few = fewer_lists _ _ _ (g.B.Look.cell c.args.base.now) c.known.ensures.parts c.requires.keys in
    omega (arith, few, ap length c.requires.keys, c.head_of.ensures.steps)

pub returns-in_err-answers-clause-steps : goal.returns-in_err-answers-clause-steps
returns-in_err-answers-clause-steps g c =
    let few = fewer_lists _ _ _ (g.B.Look.cell c.args.base.now) c.known.ensures.parts c.requires.keys in
    omega (arith, few, ap length c.requires.keys, c.head_of.ensures.steps)

pub returns-in_err-merged-clause-steps : goal.returns-in_err-merged-clause-steps
returns-in_err-merged-clause-steps g c =
    let few = fewer_lists _ _ _ (g.B.Look.cell c.args.base.now) c.known.ensures.parts c.requires.keys in
    omega (arith, few, ap length c.requires.keys, c.head_of.ensures.steps, c.make-2.ensures.steps)

pub invariant_of-result : goal.invariant_of-result
invariant_of-result g c =
    let base = g.B.Look.cell c.args.base.now in
    let edits = c.args.edits.now.edits in
    let guards = c.args.edits.now.guards in
    let formed = subst (λ nall. IsFormed nall edits guards) c.requires.level c.known.ensures.parts in
    record {
      readable = c.edited_cells_are_readable.ensures base edits guards c.known-2.ensures c.requires.room formed c.requires.found;
      found = c.formed_edits_find_their_records.ensures base edits guards c.known-2.ensures formed c.requires.found;
      head_is = c.in_ok-head.ensures.head;
      merged =
          subst (λ keys. AreMerged keys edits base c.in_ok-merged.merged.pointers c.in_ok-merged.merged.bearers) c.requires.keys
          (subst (λ set. AreMerged c.args.keys.now set.edits base c.in_ok-merged.merged.pointers c.in_ok-merged.merged.bearers)
          c.in_ok-answers.ensures c.in_ok-merged.ensures.merged);
    }

pub returns-clause-steps : goal.returns-clause-steps
returns-clause-steps g c =
    let few = fewer_lists _ _ _ (g.B.Look.cell c.args.base.now) c.known.ensures.parts c.requires.keys in
    omega (arith, few, ap length c.requires.keys, c.head_of.ensures.steps, c.make-2.ensures.steps)
