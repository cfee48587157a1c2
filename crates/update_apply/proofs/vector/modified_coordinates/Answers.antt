use Rattle.std.proofs.Common.{subst, ap, ◌∙◌}
use Rattle.update_spec.specs.UpdatedRows.{Coordinates, updated_coordinates}
use Rattle.update_spec.specs.UpdateRecords.{given_coordinates}
use Rattle.update_apply.specs.Gives.{GivesUpdate}
use Rattle.update_apply.proofs.KeptRows.{kept_coordinates}
use Rattle.update_apply.proofs.vector.modified_coordinates.Goals as goal

pub returns : goal.returns
returns c =
    let given = given_coordinates c.args.frame.now.fields in
    let held : Coordinates = (c.args.target.now.plane, c.args.target.now.deep) in
    let kept : Coordinates = (c.in_ok-given.given.0, c.in_ok-given.given.1) in
    let control = c.control_among-control in
    subst (GivesUpdate c.updated_coordinates.result)
    (kept_coordinates control.result kept given held control.ensures.counted c.in_ok-given.ensures
    ∙ ap (λ said. updated_coordinates said given held) control.ensures.said)
    c.updated_coordinates.ensures
