use Rattle.std.proofs.Common.{◌∙◌, IsTrue, ap, filter, subst, sym}
use Rattle.std.specs.List.{All}
use Rattle.rule_spec.specs.Records.{is_chain_part, is_edge_name}
use Rattle.cell_findings.specs.Judged.{is_part_name, names_in}
use Rattle.cell_findings.specs.Near.{leaves_in}
use Rattle.cell_findings.proofs.Judged.{parts_are_chained}
use Rattle.cell_findings.proofs.threads.judged_of.Goals as goal

pub find_parts-requires-clause-names : goal.find_parts-requires-clause-names
find_parts-requires-clause-names g c = λ κs lives.
    subst (All (λ n. IsTrue (is_chain_part c.args.look.now n)))
    (sym (c.deref.ensures.value ∙ c.in_ok-parts.ensures ∙ ap (filter is_part_name) (c.as_slice-listed.ensures ∙ c.in_ok-names.ensures)))
    (subst (λ cell. All (λ n. IsTrue (is_chain_part cell n)) (filter is_part_name (names_in c.args.cell.now))) (sym c.requires.same)
    (parts_are_chained c.args.cell.now c.requires.writable))

pub returns-clause-judged : goal.returns-clause-judged
returns-clause-judged g c =
    let names = c.as_slice-listed.ensures ∙ c.in_ok-names.ensures in
    let parts = c.deref.ensures.value ∙ c.in_ok-parts.ensures ∙ ap (filter is_part_name) names in
    record {
      names = c.in_ok-names.ensures;
      edges = c.in_ok-edges.ensures ∙ ap (filter is_edge_name) names;
      identities = c.in_ok-identities.ensures;
      leaves = c.in_ok-placed.ensures.leaves ∙ (λ i. leaves_in (c.requires.same i) (parts i));
      tree = c.in_ok-tree.ensures;
    }
