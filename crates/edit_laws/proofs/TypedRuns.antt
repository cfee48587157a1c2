-- The file of the cell that a run leaves is read as that cell.
use Rattle.std.proofs.Common.{◌≡◌, ℕ, true, List, None, refl, subst, sym, ◌∙◌}
use Rattle.std.specs.List.{AllByRecursion}
use Rattle.s57_types.specs.declared.cell.Cell.{Cell}
use Rattle.s57_types.specs.declared.name.RecName.{RecName}
use Rattle.cell_spec.specs.Edits.{apply_edits, is_applicable}
use Rattle.cell_spec.specs.Writable.{IsWritable}
use Rattle.cell_spec.specs.declared.edit.Edit.{Edit}
use Rattle.edit_sets.specs.FormFault.{form_fault}
use Rattle.file_spec.specs.RoundTrip.{HasItsTypes, RoundTrip}
use Rattle.history_spec.specs.ReportText.{final_cell}
use Rattle.history_spec.specs.Sessions.{ordered_requests}
use Rattle.history_spec.specs.Steps.{opening}
use Rattle.edit_laws.specs.ReadBackAfterRuns.{EditHasItsTypes, RunsAreReadBack}
use Rattle.answer_laws.proofs.EditedCell.{edits_keep_writable}
use Rattle.answer_laws.proofs.EditedHead.{level_kept}
use Rattle.edit_laws.proofs.TypedEdits.{edits_keep_types}
use Rattle.edit_laws.proofs.TypedRequests.{requests_are_typed}
use Rattle.edit_laws.proofs.Runs.{requests_keep}

-- a writable cell as its types have it, at a level
record IsTypedAt (nall : ℕ) (d : Cell) : Type 0 where
  writable : IsWritable d
  typed : HasItsTypes d
  level : d.head.nall ≡ nall

same_level : (edits : List Edit) (d : Cell) → (apply_edits edits d).head.nall ≡ d.head.nall
unfolding apply_edits
same_level edits d = level_kept edits d.head

edits_keep_it : (nall : ℕ) (d : Cell) (edits : List Edit) (guards : List RecName) → IsTypedAt nall d
    → AllByRecursion (EditHasItsTypes nall) edits → form_fault d.head.nall edits guards ≡ None → is_applicable edits d ≡ true
    → IsTypedAt nall (apply_edits edits d)
edits_keep_it nall d edits guards here good no_fault taken = record {
  writable = edits_keep_writable d edits guards here.writable no_fault taken;
  typed = edits_keep_types d edits here.typed (subst (λ n. AllByRecursion (EditHasItsTypes n) edits) (sym here.level) good);
  level = same_level edits d ∙ here.level;
}

pub runs_are_read_back : RoundTrip → RunsAreReadBack
unfolding final_cell
runs_are_read_back back c scripts order w typed commands =
    let last : IsTypedAt c.head.nall (final_cell c scripts order) =
    requests_keep (IsTypedAt c.head.nall) (AllByRecursion (EditHasItsTypes c.head.nall)) (edits_keep_it c.head.nall) (opening c)
    (ordered_requests scripts order)
    (record { writable = w; typed = typed; level = refl }) (requests_are_typed c.head.nall scripts order commands) in
    back (final_cell c scripts order) last.writable last.typed
