use Rattle.std.proofs.Common.{◌++◌, ◌∙◌, ap, filter, rules}
use Rattle.std.proofs.lemmas.Fn.{filter_same}
use Rattle.rule_spec.specs.Findings.{is_below}
use Rattle.box_tree.specs.Leaves.{names_meeting}
use Rattle.cell_findings.proofs.pairing.names_in_tree.Goals as goal

pub returns : goal.returns
returns c =
    let leaf = c.args.leaf in
    let met = c.in_ok-push_meeting.ensures ∙ ap (λ names. names ++ names_meeting leaf.around c.args.tree.now) c.in_ok-names.ensures.items in
    filter_same _ (is_below leaf.name) _ (λ name b f' k. search rules) _ _ c.retain.ensures.filtered ∙ ap (filter (is_below leaf.name)) met
