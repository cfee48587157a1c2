-- A cell as what additions of all its records make of an empty one.
use Rattle.std.proofs.Common.{◌≡◌, Bool, true, false, List, [], ◌∷◌, ◌++◌, Option, Some, cond, filter, find, map, refl, sym, ap, subst, ◌∙◌, append-nil}
use Rattle.std.specs.Prelude.{◌==◌, ◌&&◌, filter_map, not}
use Rattle.std.specs.List.{AllByRecursion, IsDistinct, list_all}
use Rattle.std.proofs.lemmas.List.Elements.{filter-append}
use Rattle.s57_types.specs.declared.name.Kind.{Kind}
use Rattle.s57_types.specs.declared.name.Kind.TheVariants.{Vi, Vc, Ve, Fe, Head as HeadKind}
use Rattle.s57_types.specs.declared.record.Rec.{Rec}
use Rattle.s57_types.specs.declared.head.Head.{Head as CellHead}
use Rattle.s57_types.specs.declared.cell.Cell.{Cell}
use Rattle.s57_types.specs.Heads.{head_name}
use Rattle.cell_spec.specs.declared.edit.Edit.{Edit}
use Rattle.cell_spec.specs.declared.edit.Edit.TheVariants.{Add}
use Rattle.cell_spec.specs.Edits.{added_by, apply_edits, edited_list, has_its_record, head_by, list_of_kind, name_of_edit}
use Rattle.cell_spec.specs.Lookup.{all_records, name_of}
use Rattle.cell_spec.specs.Names.{is_of_kind, kind_rank, same_name}
use Rattle.cell_spec.specs.Writable.{IsWritable}
use Rattle.cell_spec.proofs.EachItem.{each_append, each_weaker}
use Rattle.answer_laws.specs.EditedAnswers.{FindTheirRecords, has_a_list}
use Rattle.answer_laws.specs.EditedCells.{EditsAddUp}
use Rattle.answer_laws.proofs.EditedLists.{IsOfKind}
use Rattle.record_store.specs.Lists.{HaveOwnKinds, empty_of}
use Rattle.record_store.proofs.Edits.{no_edits}
use Rattle.record_store.proofs.OneEdit.{kind_list}

pub own_kinds : (c : Cell) → IsWritable c → HaveOwnKinds c
own_kinds c writable = record { vi = writable.isolated_nodes; vc = writable.connected_nodes; ve = writable.edges; fe = writable.features }

added_all : (rs : List Rec) → filter_map added_by (map Add rs) ≡ rs
added_all [] = refl
added_all (r ∷ rs) = ap (λ rest. r ∷ rest) (added_all rs)

names_added : (rs : List Rec) → map name_of_edit (map Add rs) ≡ map name_of rs
names_added [] = refl
names_added (r ∷ rs) = ap (λ rest. name_of r ∷ rest) (names_added rs)

head_by_added : (h : CellHead) (r : Rec) (b : Bool) (o : Option Edit) → head_by h o ≡ h → head_by h (cond b (Some (Add r)) o) ≡ h
head_by_added h r true o is = refl
head_by_added h r false o is = is

head_added : (h : CellHead) (rs : List Rec) → head_by h (find (λ edit. same_name (name_of_edit edit) head_name) (map Add rs)) ≡ h
head_added h [] = refl
head_added h (r ∷ rs) = head_by_added h r (same_name (name_of r) head_name) (find (λ edit. same_name (name_of_edit edit) head_name) (map Add rs))
    (head_added h rs)

-- the records of one kind among those of one kind
picked_by : (k j : Kind) (b : Bool) → (kind_rank j == kind_rank k) ≡ b → (xs : List Rec) → AllByRecursion (IsOfKind j) xs
    → filter (λ r. is_of_kind k (name_of r)) xs ≡ cond b xs []
picked_by k j true is [] all = refl
picked_by k j true is (x ∷ xs) all =
    ap (λ b. cond b (x ∷ filter (λ r. is_of_kind k (name_of r)) xs) (filter (λ r. is_of_kind k (name_of r)) xs))
    (ap (λ m. kind_rank m == kind_rank k) all.0 ∙ is)
    ∙ ap (λ rest. x ∷ rest) (picked_by k j true is xs all.1)
picked_by k j false is [] all = refl
picked_by k j false is (x ∷ xs) all =
    ap (λ b. cond b (x ∷ filter (λ r. is_of_kind k (name_of r)) xs) (filter (λ r. is_of_kind k (name_of r)) xs))
    (ap (λ m. kind_rank m == kind_rank k) all.0 ∙ is)
    ∙ picked_by k j false is xs all.1

module _ (c : Cell) (kinds : HaveOwnKinds c) where
  picked : (k j : Kind) → filter (λ r. is_of_kind k (name_of r)) (list_of_kind j c) ≡ cond (kind_rank j == kind_rank k) (list_of_kind j c) []
  picked k j = picked_by k j (kind_rank j == kind_rank k) refl (list_of_kind j c) (kind_list c kinds j)

  -- the records of a kind among all
  all_picked : (k : Kind) → filter (λ r. is_of_kind k (name_of r)) (all_records c)
      ≡ ((cond (kind_rank Vi == kind_rank k) c.vi [] ++ cond (kind_rank Vc == kind_rank k) c.vc [])
      ++ cond (kind_rank Ve == kind_rank k) c.ve []) ++ cond (kind_rank Fe == kind_rank k) c.fe []
  all_picked k =
      filter-append (λ r. is_of_kind k (name_of r)) (c.vi ++ c.vc ++ c.ve) c.fe
      ∙ (λ i. (filter-append (λ r. is_of_kind k (name_of r)) (c.vi ++ c.vc) c.ve
      ∙ (λ j. (filter-append (λ r. is_of_kind k (name_of r)) c.vi c.vc ∙ (λ m. picked k Vi m ++ picked k Vc m)) j ++ picked k Ve j)) i ++ picked k Fe i)

  listed : (k : Kind) → edited_list (map Add (all_records c)) k (empty_of c.head) ≡ filter (λ r. is_of_kind k (name_of r)) (all_records c)
  listed Vi = ap (filter (λ r. is_of_kind Vi (name_of r))) (added_all (all_records c))
  listed Vc = ap (filter (λ r. is_of_kind Vc (name_of r))) (added_all (all_records c))
  listed Ve = ap (filter (λ r. is_of_kind Ve (name_of r))) (added_all (all_records c))
  listed Fe = ap (filter (λ r. is_of_kind Fe (name_of r))) (added_all (all_records c))
  listed HeadKind = ap (filter (λ r. is_of_kind HeadKind (name_of r))) (added_all (all_records c))

  pub loaded_cell : apply_edits (map Add (all_records c)) (empty_of c.head) ≡ c
  unfolding apply_edits
  loaded_cell = λ i. record {
    head = head_added c.head (all_records c) i;
    vi = (listed Vi ∙ all_picked Vi ∙ append-nil ((c.vi ++ []) ++ []) ∙ append-nil (c.vi ++ []) ∙ append-nil c.vi) i;
    vc = (listed Vc ∙ all_picked Vc ∙ append-nil (c.vc ++ []) ∙ append-nil c.vc) i;
    ve = (listed Ve ∙ all_picked Ve ∙ append-nil c.ve) i;
    fe = (listed Fe ∙ all_picked Fe) i;
  }

found_all : (h : CellHead) (rs : List Rec) → list_all (has_its_record (empty_of h)) (map Add rs) ≡ true
found_all h [] = refl
found_all h (r ∷ rs) = found_all h rs

placed_all : (rs : List Rec) → AllByRecursion (λ r. has_a_list r ≡ true) rs → list_all has_a_list rs ≡ true
placed_all [] all = refl
placed_all (r ∷ rs) all = ap (λ b. b && list_all has_a_list rs) all.0 ∙ placed_all rs all.1

placed_list : (c : Cell) → HaveOwnKinds c → (k : Kind) → (kind_rank k == kind_rank HeadKind) ≡ false
    → AllByRecursion (λ r. has_a_list r ≡ true) (list_of_kind k c)
placed_list c kinds k other =
    each_weaker (IsOfKind k) (λ r. has_a_list r ≡ true) (λ r own. ap (λ m. not (kind_rank m == kind_rank HeadKind)) own ∙ ap not other)
    (list_of_kind k c) (kind_list c kinds k)

pub loaded_fits : (c : Cell) → IsWritable c → FindTheirRecords (map Add (all_records c)) (empty_of c.head)
unfolding IsDistinct
loaded_fits c writable =
    let kinds = own_kinds c writable in
    let rs = all_records c in
    let Placed : Rec → Type 0 = λ r. has_a_list r ≡ true in
    let placed : AllByRecursion (λ r. has_a_list r ≡ true) rs =
    each_append (λ r. has_a_list r ≡ true) (c.vi ++ c.vc ++ c.ve) c.fe (each_append (λ r. has_a_list r ≡ true) (c.vi ++ c.vc) c.ve
    (each_append (λ r. has_a_list r ≡ true) c.vi c.vc (placed_list c kinds Vi refl) (placed_list c kinds Vc refl)) (placed_list c kinds Ve refl))
    (placed_list c kinds Fe refl) in
    record {
      names = (tt, tt);
      different = subst (IsDistinct same_name) (sym (names_added rs)) writable.names_distinct;
      found = found_all c.head rs;
      placed = ap (list_all has_a_list) (added_all rs) ∙ placed_all rs placed;
    }

-- ---- one addition after the other: what is left to add leaves the whole cell
pub record IsLeft (whole : Cell) (rest : List Rec) (c : Cell) : Type 0 where
  pub fits : FindTheirRecords (map Add rest) c
  pub leaves : apply_edits (map Add rest) c ≡ whole

module _ (add_up : EditsAddUp) (whole : Cell) (r : Rec) (rest : List Rec) (c : Cell) (left : IsLeft whole (r ∷ rest) c) where
  pub one_fits : FindTheirRecords (Add r ∷ []) c
  one_fits = (add_up (Add r ∷ []) (map Add rest) c left.fits).earlier

  pub rest_left : IsLeft whole rest (apply_edits (Add r ∷ []) c)
  rest_left =
      let both = add_up (Add r ∷ []) (map Add rest) c left.fits in
      record { fits = both.later; leaves = sym both.cells ∙ left.leaves }

pub all_added : (whole c : Cell) → IsLeft whole [] c → c ≡ whole
all_added whole c left = no_edits c ∙ left.leaves
