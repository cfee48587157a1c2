use Rattle.std.proofs.Common.{◌≡◌, ◌++◌, ◌∙◌, IsTrue, ap, subst, sym}
use Rattle.std.specs.Prelude.{IfOk}
use Rattle.cell_spec.specs.declared.key.Subject.{Subject}
use Rattle.rule_spec.specs.Findings.{is_subject}
use Rattle.cell_findings.specs.Cut.{AreSubjects, block_findings}
use Rattle.cell_findings.specs.Judged.{subject_findings}
use Rattle.cell_findings.specs.Near.{pairs_near}
use Rattle.cell_findings.proofs.Gathering.{gathered_if}
use Rattle.cell_findings.proofs.LeafPairs.{all_by_part, flat_of_flat}
use Rattle.cell_findings.proofs.threads.push_block.Goals as goal

pub push_near_pairs-requires-clause-subjects : goal.push_near_pairs-requires-clause-subjects
push_near_pairs-requires-clause-subjects g c =
    all_by_part (λ (s : Subject). IsTrue (is_subject c.args.search.now.look.now s)) (pairs_near c.args.judged.now.tree) c.in-Pairs.leaves.now
    (subst (AreSubjects c.args.search.now.look.now c.args.judged.now.tree) c.in-Pairs.is c.requires.subjects)

pub returns-in-Pairs : goal.returns-in-Pairs
returns-in-Pairs g c =
    let tree = c.args.judged.now.tree in
    let before = c.args.gathered.now.items in
    subst (λ found. IfOk c.push_near_pairs.result (λ _. c.push_near_pairs.new.gathered.items ≡ before ++ found))
    (sym (flat_of_flat (pairs_near tree) (subject_findings c.args.search.now.look.now) c.in-Pairs.leaves.now)
    ∙ ap (block_findings c.args.search.now.look.now tree) (sym c.in-Pairs.is))
    (gathered_if _ _ _ _ c.push_near_pairs.ensures)
