-- Edits that follow each other are those of both lists at once.
use Rattle.std.proofs.Common.{◌≡◌, inl, inr, true, List, [], ◌∷◌, ◌++◌, Option, None, Some, map, filter, is_some, refl, sym, ap, ◌∙◌, subst}
use Rattle.std.specs.Prelude.{filter_map, not, option_and_then}
use Rattle.std.specs.List.{IsDistinct, cons_option, list_all}
use Rattle.std.specs.Option.{option_or}
use Rattle.std.specs.Cmp.{eq_by_cmp_equiv}
use Rattle.std.proofs.lemmas.Bool.{and_parts}
use Rattle.std.proofs.lemmas.List.{append_assoc, map-append}
use Rattle.std.proofs.lemmas.List.Elements.{filter-append, filter_map-append}
use Rattle.std.proofs.lemmas.List.Folds.{find-append, list_all-append}
use Rattle.s57_types.specs.declared.name.Kind.{Kind}
use Rattle.s57_types.specs.declared.name.Kind.TheVariants.{Vi, Vc, Ve, Fe}
use Rattle.s57_types.specs.declared.name.RecName.{RecName}
use Rattle.s57_types.specs.declared.record.Rec.{Rec}
use Rattle.s57_types.specs.declared.cell.Cell.{Cell}
use Rattle.s57_types.specs.declared.head.Head.{Head as CellHead}
use Rattle.s57_types.specs.Heads.{head_name}
use Rattle.cell_spec.specs.declared.edit.Edit.{Edit}
use Rattle.cell_spec.specs.declared.edit.Edit.TheVariants.{Add, Set, Del, Head}
use Rattle.cell_spec.specs.Edits.{name_of_edit, added_by, edit_of, changed_by, edited_record, head_by, head_after, apply_edits, has_its_record}
use Rattle.cell_spec.specs.Lookup.{all_records, name_of, is_named, listed_record}
use Rattle.cell_spec.specs.Names.{same_name, is_of_kind}
use Rattle.cell_spec.proofs.Orders.{names_tie, one_when_same, same_from_either, total_names}
use Rattle.answer_laws.specs.EditedAnswers.{FindTheirRecords, has_a_list}
use Rattle.answer_laws.specs.EditedCells.{EditsAddUp}
use Rattle.answer_laws.proofs.Among.{all_pass, Among, among_map, each_passes, found, origin, picked}
use Rattle.answer_laws.proofs.Distinct.{distinct_back, distinct_front, distinct_parts}
use Rattle.answer_laws.proofs.EditedNames.{added_is, listed_after, listed_is, names_after}
use Rattle.answer_laws.proofs.FreeNames.{IsFree, no_edit, nothing_added, record_stays}

-- what every item is mapped to itself stays
pub all_kept : {X : Type 0} (h : X → Option X) (xs : List X) → ((x : X) → Among x xs → h x ≡ Some x) → filter_map h xs ≡ xs
all_kept h [] keeps = refl
all_kept h (x ∷ xs) keeps = λ i. cons_option (keeps x (inl refl) i) (all_kept h xs (λ y at. keeps y (inr at)) i)

mapped_twice_by : {X : Type 0} (g f : X → Option X) (o : Option X) (rest : List X)
    → cons_option (option_and_then g o) (filter_map g rest) ≡ filter_map g (cons_option o rest)
mapped_twice_by g f None rest = refl
mapped_twice_by g f (Some x) rest = refl

mapped_twice : {X : Type 0} (g f h : X → Option X) → ((x : X) → h x ≡ option_and_then g (f x)) → (xs : List X)
    → filter_map h xs ≡ filter_map g (filter_map f xs)
mapped_twice g f h same [] = refl
mapped_twice g f h same (x ∷ xs) = (λ i. cons_option (same x i) (mapped_twice g f h same xs i)) ∙ mapped_twice_by g f (f x) (filter_map f xs)

itself : (n : RecName) → same_name n n ≡ true
itself n = sym (names_tie n n) ∙ (eq_by_cmp_equiv total_names).refl n

module _ (xs ys : List Edit) (different : IsDistinct same_name (map name_of_edit (xs ++ ys))) where
  names_parted : IsDistinct same_name (map name_of_edit xs ++ map name_of_edit ys)
  names_parted = subst (IsDistinct same_name) (map-append name_of_edit xs ys) different

  -- what an earlier edit is about, no later one is
  free_later : (e : Edit) (n : RecName) → Among e xs → same_name (name_of_edit e) n ≡ true → IsFree ys n
  free_later e n at named f there =
      let apart = distinct_parts same_name (map name_of_edit xs) (map name_of_edit ys) names_parted (name_of_edit e) (name_of_edit f)
      (among_map name_of_edit e xs at) (among_map name_of_edit f ys there) in
      same_from_either (name_of_edit f) n ∙ ap (λ m. same_name m (name_of_edit f)) (sym (one_when_same (name_of_edit e) n named)) ∙ apart

  no_edit_later : (e : Edit) (n : RecName) → Among e xs → same_name (name_of_edit e) n ≡ true → edit_of n ys ≡ None
  no_edit_later e n at named = no_edit ys n (free_later e n at named)

  none_for : (r : Rec) (e : Edit) → edit_of (name_of r) xs ≡ Some e → edit_of (name_of r) ys ≡ None
  none_for r e is = let hit = found (λ edit. same_name (name_of_edit edit) (name_of r)) xs e is in no_edit_later e (name_of r) hit.among hit.passes

  -- ---- a record
  twice_by : (r : Rec) (o : Option Edit) → edit_of (name_of r) xs ≡ o
      → changed_by r (option_or o (edit_of (name_of r) ys)) ≡ option_and_then (edited_record ys) (changed_by r o)
  twice_by r None is = refl
  twice_by r (Some (Add s)) is = sym (ap (changed_by r) (none_for r (Add s) is))
  twice_by r (Some (Set s)) is =
      let hit = found (λ edit. same_name (name_of_edit edit) (name_of r)) xs (Set s) is in
      sym (ap (changed_by s) (no_edit_later (Set s) (name_of s) hit.among (itself (name_of s))))
  twice_by r (Some (Del n)) is = refl
  twice_by r (Some (Head e)) is = sym (ap (changed_by r) (none_for r (Head e) is))

  record_twice : (r : Rec) → edited_record (xs ++ ys) r ≡ option_and_then (edited_record ys) (edited_record xs r)
  record_twice r = ap (changed_by r) (find-append (λ edit. same_name (name_of_edit edit) (name_of r)) xs ys) ∙ twice_by r (edit_of (name_of r) xs) refl

  -- ---- the head
  head_by_both : (h : CellHead) (o : Option Edit) → edit_of head_name xs ≡ o
      → head_by h (option_or o (edit_of head_name ys)) ≡ head_by (head_by h o) (edit_of head_name ys)
  head_by_both h None is = refl
  head_by_both h (Some e) is =
      let hit = found (λ edit. same_name (name_of_edit edit) head_name) xs e is in
      sym (ap (head_by (head_by h (Some e))) (no_edit_later e head_name hit.among hit.passes))

  head_twice : (h : CellHead) → head_after (xs ++ ys) h ≡ head_after ys (head_after xs h)
  head_twice h = ap (head_by h) (find-append (λ edit. same_name (name_of_edit edit) head_name) xs ys) ∙ head_by_both h (edit_of head_name xs) refl

  -- ---- a list
  abbrev of_kind : Kind → List Rec → List Rec
  of_kind kind rs = filter (λ r. is_of_kind kind (name_of r)) rs

  addition_kept : (r : Rec) → Among r (filter_map added_by xs) → edited_record ys r ≡ Some r
  addition_kept r at =
      let from = origin added_by r xs at in
      let named : same_name (name_of_edit from.item) (name_of r) ≡ true =
      ap (λ e. same_name (name_of_edit e) (name_of r)) (added_is from.item r from.gives) ∙ itself (name_of r) in
      ap (changed_by r) (no_edit_later from.item (name_of r) from.among named)

  list_twice : (kind : Kind) (rs : List Rec)
      → filter_map (edited_record (xs ++ ys)) rs ++ of_kind kind (filter_map added_by (xs ++ ys))
      ≡ filter_map (edited_record ys) (filter_map (edited_record xs) rs ++ of_kind kind (filter_map added_by xs)) ++ of_kind kind (filter_map added_by ys)
  list_twice kind rs =
      let old = filter_map (edited_record ys) (filter_map (edited_record xs) rs) in
      let first = of_kind kind (filter_map added_by xs) in
      let second = of_kind kind (filter_map added_by ys) in
      let stay : filter_map (edited_record ys) first ≡ first =
      all_kept (edited_record ys) first (λ r at. addition_kept r (picked (λ s. is_of_kind kind (name_of s)) r (filter_map added_by xs) at).among) in
      (λ i. mapped_twice (edited_record ys) (edited_record xs) (edited_record (xs ++ ys)) record_twice rs i
      ++ of_kind kind (filter_map-append added_by xs ys i))
      ∙ ap (λ new. old ++ new) (filter-append (λ r. is_of_kind kind (name_of r)) (filter_map added_by xs) (filter_map added_by ys))
      ∙ sym (append_assoc old first second)
      ∙ sym (ap (λ all. all ++ second) (filter_map-append (edited_record ys) (filter_map (edited_record xs) rs) first ∙ ap (λ new. old ++ new) stay))

  pub same_cell : (c : Cell) → apply_edits (xs ++ ys) c ≡ apply_edits ys (apply_edits xs c)
  unfolding apply_edits
  same_cell c =
      λ i. record { head = head_twice c.head i; vi = list_twice Vi c.vi i; vc = list_twice Vc c.vc i; ve = list_twice Ve c.ve i; fe = list_twice Fe c.fe i }

-- ---- which edits find their records
module _ (xs ys : List Edit) (c : Cell) (fit : FindTheirRecords (xs ++ ys) c) where
  all_found : (list_all (has_its_record c) xs ≡ true) × (list_all (has_its_record c) ys ≡ true)
  all_found = and_parts (list_all (has_its_record c) xs) (list_all (has_its_record c) ys) (sym (list_all-append (has_its_record c) xs ys) ∙ fit.found)

  all_placed : (list_all has_a_list (filter_map added_by xs) ≡ true) × (list_all has_a_list (filter_map added_by ys) ≡ true)
  all_placed =
      and_parts (list_all has_a_list (filter_map added_by xs)) (list_all has_a_list (filter_map added_by ys))
      (sym (ap (list_all has_a_list) (filter_map-append added_by xs ys) ∙ list_all-append has_a_list (filter_map added_by xs) (filter_map added_by ys))
      ∙ fit.placed)

  earlier_fit : FindTheirRecords xs c
  earlier_fit = record {
    names = fit.names;
    different = distinct_front same_name (map name_of_edit xs) (map name_of_edit ys) (names_parted xs ys fit.different);
    found = all_found.0;
    placed = all_placed.0;
  }

  abbrev d : Cell
  d = apply_edits xs c

  still_by : (n : RecName) → IsFree xs n → (o : Option Rec) → listed_record c n ≡ o → listed_after xs n o ≡ o
  still_by n free None is = nothing_added xs n free
  still_by n free (Some r) is = record_stays xs n free r (found (is_named n) (all_records c) r is).passes

  -- what no earlier edit is about is there as before
  still_there : (n : RecName) → IsFree xs n → listed_record d n ≡ listed_record c n
  still_there n free = listed_is xs c earlier_fit n ∙ still_by n free (listed_record c n) refl

  has_it_still : (e : Edit) → IsFree xs (name_of_edit e) → has_its_record d e ≡ has_its_record c e
  has_it_still (Add r) free = ap (λ (o : Option Rec). not (is_some o)) (still_there (name_of r) free)
  has_it_still (Set r) free = ap (λ (o : Option Rec). is_some o) (still_there (name_of r) free)
  has_it_still (Del n) free = ap (λ (o : Option Rec). is_some o) (still_there n free)
  has_it_still (Head e) free = refl

  later_free : (f : Edit) → Among f ys → IsFree xs (name_of_edit f)
  later_free f there e at =
      distinct_parts same_name (map name_of_edit xs) (map name_of_edit ys) (names_parted xs ys fit.different) (name_of_edit e) (name_of_edit f)
      (among_map name_of_edit e xs at) (among_map name_of_edit f ys there)

  later_fit : FindTheirRecords ys d
  later_fit = record {
    names = names_after xs c earlier_fit;
    different = distinct_back same_name (map name_of_edit xs) (map name_of_edit ys) (names_parted xs ys fit.different);
    found = all_pass (has_its_record d) ys (λ f at. has_it_still f (later_free f at) ∙ each_passes (has_its_record c) f ys all_found.1 at);
    placed = all_placed.1;
  }

pub add_up : EditsAddUp
add_up xs ys c fit = record { earlier = earlier_fit xs ys c fit; later = later_fit xs ys c fit; cells = same_cell xs ys fit.different c }
