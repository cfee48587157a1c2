use Rattle.std.proofs.Common.{◌≡◌, true, false, sym, ◌∙◌}
use Rattle.geometry_spec.specs.Signs.{lies_on}
use Rattle.geo_exact.proofs.SignTests.{zero_found}
use Rattle.geo_exact.proofs.ContactTests.{on_line_and_between, lying_found}
use Rattle.geo_exact.proofs.contact.on_segment.Goals as goal

pub returns-then-on_line : goal.returns-then-on_line
returns-then-on_line c =
    let found : c.is_between-between.result ≡ lies_on c.args.w c.args.p c.args.q =
    on_line_and_between c.args.w c.args.p c.args.q _ _ true _ c.min.ensures c.max.ensures
    (sym c.if-on_line.true ∙ zero_found _ _ _ c.orient.ensures c.is_on_line-on_line.ensures) c.is_between-between.ensures in
    record { computed = found; exact = lying_found c.args.w c.args.p c.args.q _ found }

pub returns-else-on_line : goal.returns-else-on_line
returns-else-on_line c =
    let found : c.is_on_line-on_line.result ≡ lies_on c.args.w c.args.p c.args.q =
    c.if-on_line.false ∙ on_line_and_between c.args.w c.args.p c.args.q _ _ false _ c.min.ensures c.max.ensures
    (sym c.if-on_line.false ∙ zero_found _ _ _ c.orient.ensures c.is_on_line-on_line.ensures) c.is_between-between.ensures in
    record { computed = found; exact = lying_found c.args.w c.args.p c.args.q _ found }
