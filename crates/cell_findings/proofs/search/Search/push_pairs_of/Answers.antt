use Rattle.std.proofs.Common.{◌∙◌, IsTrue, List, map, subst, sym}
use Rattle.std.specs.List.{All, flat_map}
use Rattle.s57_types.specs.declared.name.RecName.{RecName}
use Rattle.cell_spec.specs.declared.key.Subject.{Subject}
use Rattle.cell_spec.specs.declared.key.Subject.TheVariants.{Pair}
use Rattle.rule_spec.specs.Findings.{is_subject}
use Rattle.cell_findings.specs.Gathered.{Gathers}
use Rattle.cell_findings.specs.Judged.{subject_findings}
use Rattle.cell_findings.specs.Near.{names_near}
use Rattle.cell_findings.specs.declared.list.SubjectFinding.{SubjectFinding}
use Rattle.cell_findings.proofs.Gathering.{all_of_map}
use Rattle.cell_findings.proofs.search.Search.push_pairs_of.Goals as goal

pub push_pairs_with-requires-clause-subjects : goal.push_pairs_with-requires-clause-subjects
push_pairs_with-requires-clause-subjects g c =
    let are = λ (s : Subject). IsTrue (is_subject c.args.self.now.look.now s) in
    subst (All (λ b. are (Pair c.args.leaf.name b))) (sym (c.as_slice-others.ensures ∙ c.in_ok-others.ensures))
    (all_of_map are (Pair c.args.leaf.name) (names_near c.args.leaf c.args.tree.now) c.requires.subjects)

pub returns : goal.returns
returns g c =
    let tell : List RecName → List SubjectFinding = λ names. flat_map (subject_findings c.args.self.now.look.now) (map (Pair c.args.leaf.name) names) in
    subst (λ names. Gathers c.args.self.now.limit c.args.gathered.now.items (tell names) c.push_pairs_with.new.gathered.items c.push_pairs_with.result)
    (c.as_slice-others.ensures ∙ c.in_ok-others.ensures) c.push_pairs_with.ensures
