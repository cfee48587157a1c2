use Rattle.std.proofs.Common.{◌≡◌, ◌∙◌, IsTrue, List, ap, subst, sym}
use Rattle.std.specs.List.{All, flat_map}
use Rattle.std.specs.List.Sorted.{IsPermutation, IsStrictlySortedBy}
use Rattle.s57_types.specs.declared.cell.Cell.{Cell}
use Rattle.s57_types.specs.declared.name.RecName.{RecName}
use Rattle.box_tree.specs.declared.leaf.Leaf.{Leaf}
use Rattle.cell_spec.specs.Names.{name_order}
use Rattle.cell_spec.specs.declared.key.Subject.{Subject}
use Rattle.rule_spec.specs.Findings.{is_subject}
use Rattle.cell_findings.specs.Gathered.{Gathers}
use Rattle.cell_findings.specs.Judged.{subject_findings}
use Rattle.cell_findings.specs.Near.{leaf_names, leaves_in, near_pairs, pairs_near}
use Rattle.cell_findings.proofs.LeafPairs.{all_by_part, flat_of_flat, pairs_by_leaf}
use Rattle.cell_findings.proofs.NearPairs.{leaves_ascend, near_are_known, near_pairs_tell}
use Rattle.cell_findings.proofs.search.Search.push_pairs.Goals as goal

-- the pairs near the leaves of a tree, leaf by leaf
near_by_leaf : (cell : Cell) (names : List RecName) → IsStrictlySortedBy name_order names → (leaves placed tree : List Leaf) → leaves ≡ placed
    → placed ≡ leaves_in cell names → IsPermutation placed tree → flat_map (pairs_near tree) leaves ≡ near_pairs leaves
near_by_leaf cell names ascending leaves placed tree listed is moved =
    pairs_by_leaf leaves tree (subst (λ ls. IsStrictlySortedBy name_order (leaf_names ls)) (sym (listed ∙ is)) (leaves_ascend cell names ascending))
    (subst (λ ls. IsPermutation ls tree) (sym listed) moved)

pub push_near_pairs-requires-clause-subjects : goal.push_near_pairs-requires-clause-subjects
push_near_pairs-requires-clause-subjects g c =
    let cell = c.args.self.now.look.now in
    let are = λ (s : Subject). IsTrue (is_subject cell s) in
    let leaves = c.as_slice-leaves.result.now in
    let tree = c.in_ok-tree.tree in
    let is = c.as_slice-leaves.ensures.value ∙ c.in_ok-placed.ensures.leaves in
    let by_leaf = near_by_leaf cell c.args.names.now c.requires.ascending leaves _ tree c.as_slice-leaves.ensures.value c.in_ok-placed.ensures.leaves
    c.in_ok-tree.ensures in
    all_by_part are (pairs_near tree) leaves (subst (All are) (sym by_leaf)
    (subst (λ ls. All are (near_pairs ls)) (sym is) (near_are_known cell are c.args.names.now c.requires.subjects)))

pub returns : goal.returns
returns g c =
    let cell = c.args.self.now.look.now in
    let leaves = c.as_slice-leaves.result.now in
    let tree = c.in_ok-tree.tree in
    let is = c.as_slice-leaves.ensures.value ∙ c.in_ok-placed.ensures.leaves in
    let by_leaf = near_by_leaf cell c.args.names.now c.requires.ascending leaves _ tree c.as_slice-leaves.ensures.value c.in_ok-placed.ensures.leaves
    c.in_ok-tree.ensures in
    let tell = sym (flat_of_flat (pairs_near tree) (subject_findings cell) leaves)
    ∙ ap (flat_map (subject_findings cell)) by_leaf
    ∙ ap (λ ls. flat_map (subject_findings cell) (near_pairs ls)) is
    ∙ near_pairs_tell cell c.apart_pairs_are_clean.ensures c.args.names.now in
    subst (λ found. Gathers c.args.self.now.limit c.args.gathered.now.items found c.push_near_pairs.new.gathered.items c.push_near_pairs.result)
    tell c.push_near_pairs.ensures
