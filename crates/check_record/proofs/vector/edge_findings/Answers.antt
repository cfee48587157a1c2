use Rattle.std.proofs.Common.{◌≡◌, ◌++◌, ◌∙◌, true, List, is_some, map, not, refl, sym, ap, subst}
use Rattle.std.specs.List.{All}
use Rattle.s57_types.specs.declared.record.End.{End}
use Rattle.cell_spec.specs.declared.key.Key.TheVariants.{Name}
use Rattle.near_records.specs.Near.{has_key}
use Rattle.rule_spec.specs.declared.kind.TheConstants.{BAD_SHAPE, DANGLING_END, END_COUNT}
use Rattle.rule_spec.specs.EdgeEnds.{end_count}
use Rattle.rule_spec.specs.Findings.{finding}
use Rattle.rule_spec.specs.Records.{node_named}
use Rattle.rule_spec.specs.Rule.{places_where}
use Rattle.rule_spec.specs.Vectors.{bad_shape}
use Rattle.check_record.proofs.Findings.{edge_kinds, four_appended, two_appended}
use Rattle.check_record.proofs.vector.edge_findings.Goals as goal

pub returns : goal.returns
returns g c = λ cell keys near asked.
    let edge = c.args.edge.now in
    let ends : c.as_slice.result.now ≡ edge.ends = c.as_slice.ensures in
    let one = map (finding BAD_SHAPE) (bad_shape cell edge) in
    let two = map (finding END_COUNT) (end_count cell edge) in
    let shape = two_appended _ _ _ one two c.new-findings.ensures.items (c.in_ok-push_bad_shape.ensures cell) (c.in_ok-push_end_count.ensures cell) in
    let dangling =
    c.in_ok-push_dangling.ensures cell keys near
    (subst (λ (es : List End). All (λ (e : End). has_key keys (Name e.to) ≡ true) es) (sym ends) asked)
    ∙ ap (λ (es : List End). c.push_end_count.new.findings.items
    ++ map (finding DANGLING_END) (places_where (λ (e : End). not (is_some (node_named cell e.to))) es)) ends in
    let line = c.as_ref.ensures.value ∙ c.in_ok-line.ensures cell keys near asked in
    four_appended _ _ _ one two _ _ shape dangling c.in_ok-push_line_findings.ensures
    ∙ edge_kinds cell edge _ _ c.requires.kind refl line
