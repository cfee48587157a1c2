use Rattle.std.proofs.Common.{sum_by, ap, ◌∙◌, arith}
use Rattle.text_spec.specs.CellText.{total_of}
use Rattle.skin_probe.specs.Totals.{unbalanced_in}
use Rattle.skin_probe.proofs.point.unbalanced_of.Goals as goal

pub unbalanced_sides-requires : goal.unbalanced_sides-requires
unbalanced_sides-requires c = omega (arith, ap total_of c.findings-table.ensures, c.known.ensures.few)

pub returns : goal.returns
returns c = c.unbalanced_sides.ensures ∙ ap (sum_by unbalanced_in) c.findings-table.ensures
