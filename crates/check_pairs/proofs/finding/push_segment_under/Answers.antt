use Rattle.std.proofs.Common.{◌≡◌, ◌++◌, [], ◌∷◌, ◌∙◌, None, Some, ap, map, sym}
use Rattle.std.specs.List.{position_from}
use Rattle.std.proofs.lemmas.List.{append-nil}
use Rattle.rule_spec.specs.declared.kind.TheConstants.{NODE_ON_EDGE}
use Rattle.rule_spec.specs.Contacts.{is_on}
use Rattle.rule_spec.specs.EdgePoints.{Segment, segments_of}
use Rattle.rule_spec.specs.Findings.{finding}
use Rattle.rule_spec.specs.Rule.{found_at}
use Rattle.rule_spec.specs.Vectors.{Numbered}
use Rattle.check_pairs.proofs.NumberedSegments.{place_of_numbered}
use Rattle.check_pairs.proofs.finding.push_segment_under.Goals as goal

pub returns-in_ok-push : goal.returns-in_ok-push
returns-in_ok-push c =
    let before = c.args.findings.now.items in
    let test = λ (s : Segment). is_on s c.args.w in
    let place : position_from test 1 (segments_of c.args.line.now.points) ≡ Some c.in-Some.k =
    sym (place_of_numbered test 1 1 (segments_of c.args.line.now.points))
    ∙ ap (λ segments. position_from (λ (s : Numbered). test s.1) 1 segments) (sym c.segments.ensures)
    ∙ sym c.first_segment_under.ensures
    ∙ c.in-Some.is in
    c.in_ok-push.ensures.items
    ∙ ap (λ k. before ++ finding NODE_ON_EDGE (k ∷ []) ∷ []) c.in_ok-number.ensures
    ∙ ap (λ at. before ++ map (finding NODE_ON_EDGE) (found_at at)) (sym place)

pub returns-in_default : goal.returns-in_default
returns-in_default c =
    let before = c.args.findings.now.items in
    let test = λ (s : Segment). is_on s c.args.w in
    let place : position_from test 1 (segments_of c.args.line.now.points) ≡ None =
    sym (place_of_numbered test 1 1 (segments_of c.args.line.now.points))
    ∙ ap (λ segments. position_from (λ (s : Numbered). test s.1) 1 segments) (sym c.segments.ensures)
    ∙ sym c.first_segment_under.ensures
    ∙ c.in_default.is in
    sym (append-nil before) ∙ ap (λ at. before ++ map (finding NODE_ON_EDGE) (found_at at)) (sym place)
