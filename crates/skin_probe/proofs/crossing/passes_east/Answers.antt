use Rattle.std.proofs.Common.{pos, int_lt, of_z, to_z, w8, ap, ◌∙◌}
use Rattle.std.proofs.lemmas.Int.{to_z-of_z}
use Rattle.std.specs.Int.{int_signum}
use Rattle.geometry_spec.specs.Points.{orientation_of}
use Rattle.skin_probe.proofs.Crossings.{left_is_east, sign_fits}
use Rattle.skin_probe.proofs.crossing.passes_east.Goals as goal

pub returns : goal.returns
returns c =
    let turn = orientation_of c.args.low c.args.high c.args.at in
    ap (λ z. int_lt (pos 0) (to_z w8 (of_z w8 z))) c.orient.ensures
    ∙ ap (int_lt (pos 0)) (to_z-of_z w8 (int_signum turn) (sign_fits turn))
    ∙ left_is_east c.args.at c.args.low c.args.high
