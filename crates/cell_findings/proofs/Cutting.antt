-- Subjects cut into blocks, and put together again.
use Rattle.std.proofs.Common.{◌≡◌, ℕ, All, IsTrue, List, [], ◌∷◌, ◌++◌, append_assoc, arith, drop, filter, length, map, take, true, refl, ap, subst, sym, ◌∙◌}
use Rattle.std.specs.Prelude.{◌==◌}
use Rattle.std.specs.List.{flat_map}
use Rattle.std.specs.List.Sorted.{IsStrictlySortedBy}
use Rattle.std.proofs.lemmas.Bool.{eqb-true}
use Rattle.std.proofs.lemmas.List.{append-nil, map-append, take-append-drop}
use Rattle.std.proofs.lemmas.List.Concat.{flat_map-append}
use Rattle.std.proofs.lemmas.List.Elements.{All-append}
use Rattle.std.proofs.lemmas.List.Kept.{IsStrictlySortedBy-filter}
use Rattle.s57_types.specs.declared.cell.Cell.{Cell}
use Rattle.s57_types.specs.declared.name.RecName.{RecName}
use Rattle.cell_spec.specs.Names.{name_order}
use Rattle.cell_spec.specs.Writable.{IsWritable}
use Rattle.cell_spec.specs.declared.key.Subject.{Subject}
use Rattle.cell_spec.specs.declared.key.Subject.TheVariants.{Rec, Side, Ident}
use Rattle.cell_spec.proofs.Ascending.{sorted-ascending}
use Rattle.cell_spec.proofs.Orders.{total_names}
use Rattle.rule_spec.specs.Findings.{is_subject, record_names}
use Rattle.rule_spec.specs.Records.{is_edge_name}
use Rattle.box_tree.specs.declared.leaf.Leaf.{Leaf}
use Rattle.finding_laws.specs.Pairs.{ApartPairsAreClean}
use Rattle.cell_findings.specs.Cut.{AreSubjects, IsJudgedOf, block_findings, block_subjects, subjects_in}
use Rattle.cell_findings.specs.Judged.{identities_in, is_part_name, judged_subjects, names_in, part_pairs, records_and_sides, subject_findings}
use Rattle.cell_findings.specs.Near.{leaf_names, leaves_in, near_pairs, pairs_near}
use Rattle.cell_findings.specs.declared.block.Block.{Block}
use Rattle.cell_findings.specs.declared.block.Judged.{Judged}
use Rattle.cell_findings.specs.declared.list.SubjectFinding.{SubjectFinding}
use Rattle.cell_findings.proofs.Judged.{all_are_subjects}
use Rattle.cell_findings.proofs.Gathering.{all_before, all_behind}
use Rattle.cell_findings.proofs.LeafPairs.{all_by_part, flat_of_flat, pairs_by_leaf}
use Rattle.cell_findings.proofs.NearPairs.{leaves_ascend, near_are_known, near_pairs_tell}

-- ---- cutting
-- a block more, and the rest of the items
pub block_more : {X : Type 0} (tree : List Leaf) (f : List X → List Subject)
    → ((xs ys : List X) → f (xs ++ ys) ≡ f xs ++ f ys)
    → (blocks : List Block) (block : Block) (front back rest : List X) (all : List Subject)
    → front ++ back ≡ rest → block_subjects tree block ≡ f front → subjects_in tree blocks ++ f rest ≡ all
    → subjects_in tree (blocks ++ block ∷ []) ++ f back ≡ all
block_more tree f splits blocks block front back rest all cut is left =
    ap (λ ss. ss ++ f back) (flat_map-append (block_subjects tree) blocks (block ∷ []))
    ∙ ap (λ ss. (subjects_in tree blocks ++ ss) ++ f back) (append-nil (block_subjects tree block) ∙ is)
    ∙ append_assoc (subjects_in tree blocks) (f front) (f back)
    ∙ ap (λ ss. subjects_in tree blocks ++ ss) (sym (splits front back) ∙ ap f cut)
    ∙ left

-- a block of the first items of a list, which is pushed, and the other items
pub mapped_more : {X : Type 0} (tree : List Leaf) (f : X → Subject) (blocks pushed : List Block) (block : Block) (front back rest : List X) (k : ℕ)
    (all : List Subject) → front ≡ take k rest → back ≡ drop k rest → pushed ≡ blocks ++ block ∷ [] → block_subjects tree block ≡ map f front
    → subjects_in tree blocks ++ map f rest ≡ all → subjects_in tree pushed ++ map f back ≡ all
mapped_more tree f blocks pushed block front back rest k all first others push is left =
    ap (λ cut. subjects_in tree cut ++ map f back) push
    ∙ block_more tree (map f) (λ xs ys. map-append f xs ys) blocks block front back rest all ((λ i. first i ++ others i) ∙ take-append-drop k rest) is left

-- none are left
pub block_last : {X : Type 0} (f : List X → List Subject) → f [] ≡ [] → (rest : List X) (done all : List Subject) → length rest ≡ 0
    → done ++ f rest ≡ all → done ≡ all
block_last f none [] done all e left = sym (append-nil done) ∙ ap (λ ss. done ++ ss) (sym none) ∙ left
block_last f none (x ∷ rest) done all e left = absurd (omega (arith, e))

pub mapped_last : {X : Type 0} (f : X → Subject) (rest : List X) (done all : List Subject) → true ≡ (length rest == 0) → done ++ map f rest ≡ all → done ≡ all
mapped_last f rest done all e left = block_last (map f) refl rest done all (eqb-true (length rest) 0 (sym e)) left

-- blocks of one kind after those of another
pub in_order : (s0 s1 s2 s3 s4 s5 others features sides pairs identities records : List Subject) → s0 ≡ [] → s1 ≡ s0 ++ others
    → s2 ≡ s1 ++ features → s3 ≡ s2 ++ sides → s4 ≡ s3 ++ pairs → s5 ≡ s4 ++ identities → others ++ features ≡ records
    → s5 ≡ records ++ (sides ++ (pairs ++ identities))
in_order s0 s1 s2 s3 s4 s5 others features sides pairs identities records e0 e1 e2 e3 e4 e5 both =
    let second = e2 ∙ ap (λ ss. ss ++ features) (e1 ∙ ap (λ ss. ss ++ others) e0) ∙ both in
    let third = e3 ∙ ap (λ ss. ss ++ sides) second in
    let fourth = e4 ∙ ap (λ ss. ss ++ pairs) third in
    e5 ∙ ap (λ ss. ss ++ identities) fourth
    ∙ append_assoc (records ++ sides) pairs identities
    ∙ append_assoc records sides (pairs ++ identities)

module _ (c : Cell) (w : IsWritable c) (law : ApartPairsAreClean) (judged : Judged) (is : IsJudgedOf c judged) where
  abbrev leaves : List Leaf
  leaves = judged.placed.leaves.items

  abbrev near : List Subject
  near = flat_map (pairs_near judged.tree) leaves

  abbrev parts : List RecName
  parts = filter is_part_name (names_in c)

  -- what is cut
  abbrev pub whole : List Subject
  whole = map Rec judged.names ++ (map Side judged.edges.items ++ (near ++ map Ident judged.identities.items))

  parts_ascend : IsStrictlySortedBy name_order parts
  parts_ascend = IsStrictlySortedBy-filter name_order is_part_name (names_in c) (sorted-ascending name_order total_names (record_names c))

  leaves_are_sorted : IsStrictlySortedBy name_order (leaf_names leaves)
  leaves_are_sorted = subst (λ ls. IsStrictlySortedBy name_order (leaf_names ls)) (sym is.leaves) (leaves_ascend c parts parts_ascend)

  near_is : near ≡ near_pairs (leaves_in c parts)
  near_is = pairs_by_leaf leaves judged.tree leaves_are_sorted is.tree ∙ ap near_pairs is.leaves

  whole_is : whole ≡ map Rec (names_in c) ++ (map Side (filter is_edge_name (names_in c)) ++ (near_pairs (leaves_in c parts) ++ map Ident (identities_in c)))
  whole_is = λ i. map Rec (is.names i) ++ (map Side (is.edges i) ++ (near_is i ++ map Ident (is.identities i)))

  abbrev are : Subject → Type 0
  are s = IsTrue (is_subject c s)

  -- all of it are subjects
  whole_are : All are whole
  whole_are =
      let firsts = all_before are (records_and_sides (names_in c)) (part_pairs (names_in c) ++ map Ident (identities_in c)) (all_are_subjects c w) in
      let lasts = all_behind are (records_and_sides (names_in c)) (part_pairs (names_in c) ++ map Ident (identities_in c)) (all_are_subjects c w) in
      let edges = filter is_edge_name (names_in c) in
      let near_all = near_are_known c are parts (all_before are (part_pairs (names_in c)) (map Ident (identities_in c)) lasts) in
      subst (All are) (sym whole_is)
      (All-append are (map Rec (names_in c)) _ (all_before are (map Rec (names_in c)) (map Side edges) firsts)
      (All-append are (map Side edges) _ (all_behind are (map Rec (names_in c)) (map Side edges) firsts)
      (All-append are (near_pairs (leaves_in c parts)) (map Ident (identities_in c)) near_all
      (all_behind are (part_pairs (names_in c)) (map Ident (identities_in c)) lasts))))

  abbrev tell : Subject → List SubjectFinding
  tell = subject_findings c

  -- what its findings are
  whole_tells : flat_map tell whole ≡ flat_map tell (judged_subjects c)
  whole_tells =
      let records = map Rec (names_in c) in
      let sides = map Side (filter is_edge_name (names_in c)) in
      let identities = map Ident (identities_in c) in
      let pairs = near_pairs (leaves_in c parts) in
      let last = flat_map-append tell pairs identities ∙ ap (λ found. found ++ flat_map tell identities) (near_pairs_tell c law parts)
      ∙ sym (flat_map-append tell (part_pairs (names_in c)) identities) in
      ap (flat_map tell) (whole_is ∙ sym (append_assoc records sides (pairs ++ identities)))
      ∙ flat_map-append tell (records ++ sides) (pairs ++ identities)
      ∙ ap (λ found. flat_map tell (records ++ sides) ++ found) last
      ∙ sym (flat_map-append tell (records ++ sides) (part_pairs (names_in c) ++ identities))

  module _ (blocks : List Block) (cut : subjects_in judged.tree blocks ≡ whole) where
    -- each block has subjects
    pub blocks_are : All (AreSubjects c judged.tree) blocks
    blocks_are = all_by_part are (block_subjects judged.tree) blocks (subst (All are) (sym cut) whole_are)

    -- and the findings about blocks, one after the other, are all
    pub blocks_tell : flat_map (block_findings c judged.tree) blocks ≡ flat_map tell (judged_subjects c)
    blocks_tell = sym (flat_of_flat (block_subjects judged.tree) tell blocks) ∙ ap (flat_map tell) cut ∙ whole_tells

-- parts one after the other
pub parts_of_map : {X Y : Type 0} (f : X → List Y) (xs : List X) → flat_map (λ part. part) (map f xs) ≡ flat_map f xs
parts_of_map f [] = refl
parts_of_map f (x ∷ xs) = ap (λ rest. f x ++ rest) (parts_of_map f xs)
