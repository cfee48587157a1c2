use Rattle.std.proofs.Common.{◌+◌, ◌++◌, ◌∙◌, ap, drop, get_or, sym}
use Rattle.std.specs.List.{flat_map}
use Rattle.std.specs.Prelude.{pos}
use Rattle.std.proofs.lemmas.List.{at_drop_more}
use Rattle.std.proofs.lemmas.Result.{err_from_is_err_and}
use Rattle.s57_types.specs.declared.name.Kind.TheVariants.{Vi}
use Rattle.box_tree.specs.declared.leaf.Leaf.{Leaf}
use Rattle.cell_findings.specs.Near.{leaf_findings}
use Rattle.cell_findings.proofs.Gathering.{over_more}
use Rattle.cell_findings.proofs.search.Search.push_pairs_together.Goals as goal

abbrev default : Leaf
default = record { name = record { kind = Vi; id = 0 }; around = record { south = pos 0; west = pos 0; north = pos 0; east = pos 0 } }

pub push_pairs_of-requires-clause-subjects : goal.push_pairs_of-requires-clause-subjects
push_pairs_of-requires-clause-subjects g c = c.requires.subjects c.loop-leaf.leaf-index default c.loop-leaf-test.true

pub returns-in_err-push_pairs_of : goal.returns-in_err-push_pairs_of
returns-in_err-push_pairs_of g c =
    let leaves = c.args.leaves.now in
    let tell = leaf_findings c.args.self.now.look.now c.args.tree.now in
    let k = c.loop-leaf.leaf-index in
    let before = c.loop-leaf.gathered.items in
    let all = c.args.gathered.now.items ++ flat_map tell leaves in
    let left = ap (λ found. before ++ found) (sym (at_drop_more (flat_map tell) leaves k default c.loop-leaf-test.true)) ∙ c.loop-leaf.invariant.0 in
    let refused = err_from_is_err_and c.from_residual-in_err-push_pairs_of.result c.from_residual-in_err-push_pairs_of.ensures.1 in
    rw (refused.1, refused.2)
    (over_more c.args.self.now.limit before (tell (get_or leaves k default)) (flat_map tell (drop (k + 1) leaves)) all _ left c.in_err-push_pairs_of.ensures)
