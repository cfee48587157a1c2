use Rattle.std.proofs.Common.{◌++◌, ◌∙◌, ap, map, sym}
use Rattle.std.specs.List.{flat_map}
use Rattle.std.proofs.lemmas.List.{map-append, take-append-drop}
use Rattle.cell_spec.specs.declared.key.Subject.TheVariants.{Ident, Rec, Side}
use Rattle.cell_findings.specs.Cut.{subjects_in}
use Rattle.cell_findings.specs.Near.{pairs_near}
use Rattle.cell_findings.proofs.Cutting.{in_order}
use Rattle.cell_findings.proofs.block.Judged.blocks.Goals as goal

pub returns : goal.returns
returns c =
    let tree = c.args.self.now.tree in
    let names = (λ i. c.split_at.ensures.front i ++ c.split_at.ensures.back i)
    ∙ take-append-drop c.first_feature.result c.as_slice-names.result.now ∙ c.as_slice-names.ensures in
    let records = sym (map-append Rec c.split_at.result.0.now c.split_at.result.1.now) ∙ ap (map Rec) names in
    let second = subjects_in tree c.push_record_blocks-2.new.cut.items in
    let third = subjects_in tree c.push_side_blocks.new.cut.items in
    let fourth = subjects_in tree c.push_pair_blocks.new.cut.items in
    in_order _ _ _ _ _ _ _ _ _ _ _ _ (ap (subjects_in tree) c.new-cut.ensures.items)
    (c.in_ok-push_record_blocks.ensures tree)
    (c.in_ok-push_record_blocks-2.ensures tree)
    (c.in_ok-push_side_blocks.ensures tree ∙ ap (λ edges. second ++ map Side edges) c.deref.ensures.value)
    (c.in_ok-push_pair_blocks.ensures tree ∙ ap (λ leaves. third ++ flat_map (pairs_near tree) leaves) c.deref-2.ensures.value)
    (c.in_ok-push_identity_blocks.ensures tree ∙ ap (λ identities. fourth ++ map Ident identities) c.deref-3.ensures.value)
    records
