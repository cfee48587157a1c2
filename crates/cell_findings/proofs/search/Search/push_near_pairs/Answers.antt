use Rattle.std.proofs.Common.{◌≡◌, ◌≤◌, ◌++◌, ◌∙◌, All, ap, append_assoc, length, subst, sym}
use Rattle.std.specs.List.{flat_map}
use Rattle.std.proofs.lemmas.List.{take-append-drop}
use Rattle.std.proofs.lemmas.List.Concat.{flat_map-append}
use Rattle.cell_findings.specs.Near.{AreNearSubjects, leaf_findings}
use Rattle.cell_findings.proofs.Gathering.{all_before, all_behind}
use Rattle.cell_findings.proofs.search.Search.push_near_pairs.Goals as goal
use Rattle.cell_findings.proofs.search.Search.push_near_pairs.Goals.{After-split_at}

-- the leaves that ask together and those behind them are those that were left
whole : (g : _) → (c : After-split_at g) → c.split_at.result.0.now ++ c.split_at.result.1.now ≡ c.loop-rest.rest.now
whole g c = (λ i. c.split_at.ensures.front i ++ c.split_at.ensures.back i) ∙ take-append-drop c.min.result c.loop-rest.rest.now

pub push_pairs_together-requires-clause-subjects : goal.push_pairs_together-requires-clause-subjects
push_pairs_together-requires-clause-subjects g c =
    let are = AreNearSubjects c.args.self.now.look.now c.args.tree.now in
    let split = (goal.at.push_pairs_together-requires-clause-subjects g c).After-split_at in
    all_before are c.split_at.result.0.now c.split_at.result.1.now (subst (All are) (sym (whole g split)) c.loop-rest.invariant.1)

pub loop-rest-preserved : goal.loop-rest-preserved
loop-rest-preserved g c =
    let are = AreNearSubjects c.args.self.now.look.now c.args.tree.now in
    let tell = flat_map (leaf_findings c.args.self.now.look.now c.args.tree.now) in
    let split = whole g (goal.at.loop-rest-preserved g c).After-split_at in
    let before = c.loop-rest.gathered.items in
    let front = c.split_at.result.0.now in
    let back = c.split_at.result.1.now in
    let gathered = c.in_ok-push_pairs_together.ensures in (
      ap (λ found. found ++ tell back) gathered.same ∙ append_assoc before (tell front) (tell back)
          ∙ ap (λ more. before ++ more) (sym (flat_map-append (leaf_findings c.args.self.now.look.now c.args.tree.now) front back) ∙ ap tell split)
          ∙ c.loop-rest.invariant.0,
      all_behind are front back (subst (All are) (sym split) c.loop-rest.invariant.1),
      subst (λ found. length found ≤ c.args.self.now.limit) (sym gathered.same) gathered.within,
    )
