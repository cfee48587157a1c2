use Rattle.std.proofs.Common.{◌≡◌, ◌==◌, ◌||◌, Bool, true, false, length, Option, sym, ap, subst, ◌∙◌}
use Rattle.file_spec.specs.RecordFaults.{◌>>◌, demand}
use Rattle.update_spec.specs.UpdatedRows.{Coordinates, are_soundings_updated, updated_coordinates, updated_list}
use Rattle.update_spec.specs.declared.control.Control.{Control}
use Rattle.update_spec.specs.declared.fault.UpdateFault.TheVariants.{BadControl}
use Rattle.update_apply.specs.Gives.{GivesUpdate}
use Rattle.update_apply.proofs.coordinates.updated_coordinates.Goals as goal

-- what comes of one list that is given, by which it is
chosen : (soundings : Bool) (control : Option Control) (given held : Coordinates) → ((length given.0 == 0) || (length given.1 == 0)) ≡ true
    → are_soundings_updated given held ≡ soundings → updated_coordinates control given held ≡ updated_list soundings control given held
unfolding updated_coordinates
chosen soundings control given held one which =
    ap (λ b. demand b BadControl >> updated_list (are_soundings_updated given held) control given held) one ∙ ap (λ b. updated_list b control given held) which

pub returns-then-are_soundings_updated : goal.returns-then-are_soundings_updated
returns-then-are_soundings_updated c = let path = chosen true c.args.control c.args.given (c.args.plane.now, c.args.deep.now)
    (sym c.if-not-gives_one_list.ensures) (sym (c.if-are_soundings_updated.ensures c.args.deep.now)) in
    subst (GivesUpdate c.with_soundings.result) (sym path) (c.with_soundings.ensures c.args.given.0)

pub returns-else-are_soundings_updated : goal.returns-else-are_soundings_updated
returns-else-are_soundings_updated c = let path = chosen false c.args.control c.args.given (c.args.plane.now, c.args.deep.now)
    (sym c.if-not-gives_one_list.ensures) (sym (c.if-are_soundings_updated.ensures c.args.deep.now)) in
    subst (GivesUpdate c.with_points.result) (sym path) (c.with_points.ensures c.args.given.1)
