use Rattle.std.proofs.Common.{◌++◌, ap, sym, ◌∙◌}
use Rattle.std.proofs.lemmas.Result.{on_ok_weaker}
use Rattle.cell_findings.specs.Rows.{line_of}
use Rattle.cell_picture.proofs.Marks.{spot_here}
use Rattle.cell_picture.proofs.picture.draw_spot_at.Goals as goal

pub returns : goal.returns
returns c =
    on_ok_weaker c.push_dot_at.result
    (λ put. put ∙ ap (λ text. c.args.out.now.items ++ text) (sym (spot_here (line_of c.args.found) c.args.anchor c.in-Some.anchor c.in-Some.is)))
    c.push_dot_at.ensures
