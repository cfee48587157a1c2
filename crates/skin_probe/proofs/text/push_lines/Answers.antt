use Rattle.std.proofs.Common.{[], ◌∷◌, ap, ◌++◌, ◌∙◌}
use Rattle.std.specs.Fmt.{decimal}
use Rattle.std.specs.List.{flat_map}
use Rattle.std.specs.Prelude.{codes}
use Rattle.text_spec.specs.Lines.{line}
use Rattle.skin_probe.specs.ProbeText.{point_line, probe_text, sums_line, wind_line}
use Rattle.skin_probe.proofs.Lines.{six_appended}
use Rattle.skin_probe.proofs.text.push_lines.Goals as goal

pub returns : goal.returns
unfolding probe_text
returns c =
    let sheet = c.args.sheet.now in
    six_appended c.args.out.now.items c.push_point.new.out.items c.push_winds.new.out.items c.push_winds-2.new.out.items c.push_sums.new.out.items
    c.push_count.new.out.items c.push_text.new.out.items
    (point_line c.args.at) (flat_map (wind_line (codes "group1")) sheet.group1) (flat_map (wind_line (codes "coverage")) sheet.cover)
    (sums_line sheet.sums) (line (codes "unbalanced") (decimal sheet.unbalanced ∷ [])) (line (codes "end") [])
    c.in_ok-push_point.ensures
    (c.in_ok-push_winds.ensures ∙ ap (λ winds. c.push_point.new.out.items ++ flat_map (wind_line (codes "group1")) winds) c.as_slice.ensures)
    (c.in_ok-push_winds-2.ensures ∙ ap (λ winds. c.push_winds.new.out.items ++ flat_map (wind_line (codes "coverage")) winds) c.as_slice-2.ensures)
    c.in_ok-push_sums.ensures
    c.in_ok-push_count.ensures
    c.in_ok-push_text.ensures.ok
