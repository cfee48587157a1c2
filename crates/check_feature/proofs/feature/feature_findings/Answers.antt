use Rattle.std.proofs.Common.{◌≡◌, ◌==◌, ◌++◌, true, List, is_some, length, map, not, sym, ap, subst, ◌∙◌}
use Rattle.std.specs.List.{All}
use Rattle.s57_types.specs.declared.record.Partner.{Partner}
use Rattle.s57_types.specs.declared.record.Spot.{Spot}
use Rattle.cell_spec.specs.declared.key.Key.TheVariants.{Foid, Name}
use Rattle.cell_spec.specs.Lookup.{lookup_identity, lookup_record}
use Rattle.rule_spec.specs.declared.kind.TheConstants.{DANGLING_FEATURE, DANGLING_REF}
use Rattle.rule_spec.specs.Features.{target}
use Rattle.rule_spec.specs.Findings.{finding}
use Rattle.rule_spec.specs.Rule.{places_where}
use Rattle.near_records.specs.Near.{has_key}
use Rattle.near_records.proofs.ReadKeys.{head_is_read, partners_are_read, places_are_read}
use Rattle.check_feature.proofs.FeatureFindings.{all_appended, pointers_appended}
use Rattle.check_feature.proofs.feature.feature_findings.Goals as goal

pub returns : goal.returns
returns g c = λ cell n keys near is_set found.
    let f = c.args.feature.now in
    let places : c.as_slice.result.now ≡ f.places = c.as_slice.ensures in
    let partners : c.as_slice-2.result.now ≡ f.partners = c.as_slice-2.ensures in
    let refs =
    c.in_ok-push_dangling.ensures cell keys near
    (subst (λ (spots : List Spot). All (λ (s : Spot). has_key keys (Name s.to) ≡ true) spots) (sym places) (places_are_read cell n f keys is_set found))
    ∙ ap (λ (spots : List Spot). c.push_prim_refs.new.findings.items
    ++ map (finding DANGLING_REF) (places_where (λ (s : Spot). not (is_some (lookup_record cell (target s)))) spots)) places in
    let features =
    c.in_ok-push_dangling-2.ensures cell keys near
    (subst (λ (ps : List Partner). All (λ (p : Partner). has_key keys (Foid p.to) ≡ true) ps) (sym partners) (partners_are_read cell n f keys is_set found))
    ∙ ap (λ (ps : List Partner). c.push_boundary_findings.new.findings.items
    ++ map (finding DANGLING_FEATURE) (places_where (λ (p : Partner). length (lookup_identity cell p.to) == 0) ps)) partners in
    let pointers =
    pointers_appended cell f _ _ _ _ c.new-findings.ensures.items (c.in_ok-push_prim_refs.ensures cell) refs (c.in_ok-push_bad_codes.ensures cell) in
    all_appended cell f _ _ _ _ _ pointers (c.in_ok-push_boundary_findings.ensures cell n keys near is_set found pointers) features
    (c.in_ok-push_wrong_group.ensures cell) (c.in_ok-push_bad_level.ensures cell keys near (head_is_read cell n f keys is_set found))
