-- The records of a cell after one edit.
use Rattle.std.proofs.Common.{◌≡◌, ℕ, Bool, true, false, List, [], ◌∷◌, ◌++◌, inl, Option, None, Some, cond, filter, is_some, map, refl, sym, ap, subst, ◌∙◌}
use Rattle.std.proofs.Common.{append-nil}
use Rattle.std.specs.Prelude.{◌==◌, filter_map, not, option_map}
use Rattle.std.specs.List.{AllByRecursion, IsDistinct, cons_option, list_all}
use Rattle.std.specs.Ordering.{is_eq, nat_cmp}
use Rattle.std.proofs.lemmas.Bool.{both_ways as contradiction}
use Rattle.std.proofs.lemmas.Cmp.{nat_cmp_total}
use Rattle.std.proofs.lemmas.List.{map-append}
use Rattle.std.proofs.lemmas.List.Elements.{All-from_recursion, recursion_from_All}
use Rattle.std.proofs.lemmas.Option.{none-some, same_Some}
use Rattle.cell_spec.proofs.EachItem.{each_append, each_weaker}
use Rattle.row_spec.proofs.Place.{value_of-append_below}
use Rattle.std.specs.Cmp.{Equal-is, tied_itself}
use Rattle.std.specs.FinMap.{nat_cmp-IsAntisymmetric}
use Rattle.s57_types.specs.declared.name.Kind.{Kind}
use Rattle.s57_types.specs.declared.name.Kind.TheVariants.{Vi, Vc, Ve, Fe, Head as HeadKind}
use Rattle.s57_types.specs.declared.name.RecName.{RecName}
use Rattle.s57_types.specs.declared.record.Rec.{Rec}
use Rattle.s57_types.specs.declared.head.Head.{Head as CellHead}
use Rattle.s57_types.specs.declared.head.HeadEdit.{HeadEdit}
use Rattle.s57_types.specs.declared.cell.Cell.{Cell}
use Rattle.s57_types.specs.Heads.{edited_head, head_name}
use Rattle.cell_spec.specs.declared.edit.Edit.{Edit}
use Rattle.cell_spec.specs.declared.edit.Edit.TheVariants.{Add, Set, Del, Head}
use Rattle.cell_spec.specs.Edits.{added_by, apply_edits, edit_of, edited_list, edited_record, changed_by, has_its_record, head_after, head_by, is_head_edit}
use Rattle.cell_spec.specs.Edits.{left_by, list_of_kind, name_of_edit}
use Rattle.cell_spec.specs.Lookup.{all_records, is_named, listed_record, name_of}
use Rattle.cell_spec.specs.Names.{is_of_kind, kind_rank, name_order, same_name}
use Rattle.cell_spec.specs.Writable.{HaveDistinctNames}
use Rattle.cell_spec.proofs.Orders.{exact_names, names_tie, one_kind, one_when_same, same_from_either, total_names}
use Rattle.row_spec.specs.Rows.{IsAscending, value_of, with_row, without_key}
use Rattle.row_spec.proofs.Changes.{value_of-with_row, value_of-without_key}
use Rattle.answer_laws.specs.EditedAnswers.{FindTheirRecords, has_a_list}
use Rattle.answer_laws.proofs.Among.{each_passes, found, known_of}
use Rattle.answer_laws.proofs.Distinct.{distinct_back, distinct_front}
use Rattle.answer_laws.proofs.EditedLists.{IsOfKind, list_is_of_kind}
use Rattle.answer_laws.proofs.EditedRecords.{names_listed}
use Rattle.edit_answers.specs.Named.{EditsLeaveTheirRecords, listed_by}
use Rattle.record_store.specs.Lists.{AreRecords, HaveOwnKinds, IsPlaceFor, cell_of, records_in, rows_of, with_rows}
use Rattle.record_store.specs.declared.file_lists.FileLists.{FileLists}
use Rattle.record_store.specs.declared.records.Held.{Held}
use Rattle.record_store.proofs.OneList.{add_list, gone_list, other_list, set_list}

-- ---- lists by kind
pub kind_list : (c : Cell) → HaveOwnKinds c → (k : Kind) → AllByRecursion (IsOfKind k) (list_of_kind k c)
kind_list c kinds Vi = recursion_from_All (IsOfKind Vi) c.vi kinds.vi
kind_list c kinds Vc = recursion_from_All (IsOfKind Vc) c.vc kinds.vc
kind_list c kinds Ve = recursion_from_All (IsOfKind Ve) c.ve kinds.ve
kind_list c kinds Fe = recursion_from_All (IsOfKind Fe) c.fe kinds.fe
kind_list c kinds HeadKind = tt

front_names : (xs ys : List Rec) → HaveDistinctNames (xs ++ ys) → HaveDistinctNames xs
front_names xs ys all = distinct_front same_name (map name_of xs) (map name_of ys) (subst (IsDistinct same_name) (map-append name_of xs ys) all)

back_names : (xs ys : List Rec) → HaveDistinctNames (xs ++ ys) → HaveDistinctNames ys
back_names xs ys all = distinct_back same_name (map name_of xs) (map name_of ys) (subst (IsDistinct same_name) (map-append name_of xs ys) all)

pub distinct_list : (c : Cell) → HaveDistinctNames (all_records c) → (k : Kind) → HaveDistinctNames (list_of_kind k c)
unfolding IsDistinct
distinct_list c all Vi = front_names c.vi c.vc (front_names (c.vi ++ c.vc) c.ve (front_names (c.vi ++ c.vc ++ c.ve) c.fe all))
distinct_list c all Vc = back_names c.vi c.vc (front_names (c.vi ++ c.vc) c.ve (front_names (c.vi ++ c.vc ++ c.ve) c.fe all))
distinct_list c all Ve = back_names (c.vi ++ c.vc) c.ve (front_names (c.vi ++ c.vc ++ c.ve) c.fe all)
distinct_list c all Fe = back_names (c.vi ++ c.vc ++ c.ve) c.fe all
distinct_list c all HeadKind = tt

rows_list : (h : CellHead) (lists : FileLists) (k : Kind) → list_of_kind k (cell_of h lists) ≡ records_in (rows_of k lists)
rows_list h lists Vi = refl
rows_list h lists Vc = refl
rows_list h lists Ve = refl
rows_list h lists Fe = refl
rows_list h lists HeadKind = refl

-- the rows of a kind that were put are there, and those of the others stay
pub own_rows : (k : Kind) (rows : List (ℕ × Rec)) (lists : FileLists) → (k ≡ HeadKind → ⊥) → rows_of k (with_rows k rows lists) ≡ rows
own_rows Vi rows lists unlike = refl
own_rows Vc rows lists unlike = refl
own_rows Ve rows lists unlike = refl
own_rows Fe rows lists unlike = refl
own_rows HeadKind rows lists unlike = absurd (unlike refl)

other_rows : (j k : Kind) (rows : List (ℕ × Rec)) (lists : FileLists) → (kind_rank j == kind_rank k) ≡ false
    → rows_of j (with_rows k rows lists) ≡ rows_of j lists
other_rows Vi Vi rows lists other = cc
other_rows Vi Vc rows lists other = refl
other_rows Vi Ve rows lists other = refl
other_rows Vi Fe rows lists other = refl
other_rows Vi HeadKind rows lists other = refl
other_rows Vc Vi rows lists other = refl
other_rows Vc Vc rows lists other = cc
other_rows Vc Ve rows lists other = refl
other_rows Vc Fe rows lists other = refl
other_rows Vc HeadKind rows lists other = refl
other_rows Ve Vi rows lists other = refl
other_rows Ve Vc rows lists other = refl
other_rows Ve Ve rows lists other = cc
other_rows Ve Fe rows lists other = refl
other_rows Ve HeadKind rows lists other = refl
other_rows Fe Vi rows lists other = refl
other_rows Fe Vc rows lists other = refl
other_rows Fe Ve rows lists other = refl
other_rows Fe Fe rows lists other = cc
other_rows Fe HeadKind rows lists other = refl
other_rows HeadKind k rows lists other = refl

-- ---- the cell
head_by_one : (e : Edit) (h : CellHead) → is_head_edit e ≡ false → (b : Bool) → head_by h (cond b (Some e) None) ≡ h
head_by_one (Add r) h unlike true = refl
head_by_one (Set r) h unlike true = refl
head_by_one (Del n) h unlike true = refl
head_by_one (Head v) h unlike true = cc
head_by_one e h unlike false = refl

pub head_stays : (e : Edit) (h : CellHead) → is_head_edit e ≡ false → head_after (e ∷ []) h ≡ h
head_stays e h unlike = head_by_one e h unlike (same_name (name_of_edit e) head_name)

others_stay : (e : Edit) (k : Kind) (c : Cell) → (name_of_edit e).kind ≡ k → HaveOwnKinds c → (j : Kind) → (kind_rank k == kind_rank j) ≡ false
    → list_of_kind j c ≡ edited_list (e ∷ []) j c
others_stay e k c kind kinds j other = sym (other_list e j c (kind_list c kinds j) (ap (λ m. kind_rank m == kind_rank j) kind ∙ other))

-- a cell with other rows of the kind of an edit's name is the edited one where they are those of the edited list
pub cell_after : (e : Edit) (h : CellHead) (lists : FileLists) (k : Kind) (rows : List (ℕ × Rec)) → (name_of_edit e).kind ≡ k
    → (k ≡ HeadKind → ⊥) → is_head_edit e ≡ false
    → HaveOwnKinds (cell_of h lists) → edited_list (e ∷ []) k (cell_of h lists) ≡ records_in rows
    → cell_of h (with_rows k rows lists) ≡ apply_edits (e ∷ []) (cell_of h lists)
unfolding apply_edits
cell_after e h lists Vi rows kind unlike headless kinds own =
    let stay = others_stay e Vi (cell_of h lists) kind kinds in
    λ i. record { head = sym (head_stays e h headless) i; vi = sym own i; vc = stay Vc refl i; ve = stay Ve refl i; fe = stay Fe refl i }
cell_after e h lists Vc rows kind unlike headless kinds own =
    let stay = others_stay e Vc (cell_of h lists) kind kinds in
    λ i. record { head = sym (head_stays e h headless) i; vi = stay Vi refl i; vc = sym own i; ve = stay Ve refl i; fe = stay Fe refl i }
cell_after e h lists Ve rows kind unlike headless kinds own =
    let stay = others_stay e Ve (cell_of h lists) kind kinds in
    λ i. record { head = sym (head_stays e h headless) i; vi = stay Vi refl i; vc = stay Vc refl i; ve = sym own i; fe = stay Fe refl i }
cell_after e h lists Fe rows kind unlike headless kinds own =
    let stay = others_stay e Fe (cell_of h lists) kind kinds in
    λ i. record { head = sym (head_stays e h headless) i; vi = stay Vi refl i; vc = stay Vc refl i; ve = stay Ve refl i; fe = sym own i }
cell_after e h lists HeadKind rows kind unlike headless kinds own = absurd (unlike refl)

pub kinds_after : (edits : List Edit) (c : Cell) → HaveOwnKinds c → HaveOwnKinds (apply_edits edits c)
unfolding apply_edits
kinds_after edits c kinds = record {
  vi = All-from_recursion (IsOfKind Vi) (edited_list edits Vi c) (list_is_of_kind edits Vi c (kind_list c kinds Vi));
  vc = All-from_recursion (IsOfKind Vc) (edited_list edits Vc c) (list_is_of_kind edits Vc c (kind_list c kinds Vc));
  ve = All-from_recursion (IsOfKind Ve) (edited_list edits Ve c) (list_is_of_kind edits Ve c (kind_list c kinds Ve));
  fe = All-from_recursion (IsOfKind Fe) (edited_list edits Fe c) (list_is_of_kind edits Fe c (kind_list c kinds Fe));
}

-- ---- an edit of the head
headed : (v : HeadEdit) (x : Rec) (b : Bool) → changed_by x (cond b (Some (Head v)) None) ≡ Some x
headed v x true = refl
headed v x false = refl

headed_list : (v : HeadEdit) (xs : List Rec) → filter_map (edited_record (Head v ∷ [])) xs ++ [] ≡ xs
headed_list v [] = refl
headed_list v (x ∷ xs) =
    ap (λ o. cons_option o (filter_map (edited_record (Head v ∷ [])) xs) ++ []) (headed v x (same_name head_name (name_of x)))
    ∙ ap (λ rest. x ∷ rest) (headed_list v xs)

pub cell_headed : (v : HeadEdit) (h : CellHead) (lists : FileLists) → cell_of (edited_head v h) lists ≡ apply_edits (Head v ∷ []) (cell_of h lists)
unfolding apply_edits
cell_headed v h lists = λ i. record {
  head = edited_head v h;
  vi = sym (headed_list v (records_in lists.vi)) i;
  vc = sym (headed_list v (records_in lists.vc)) i;
  ve = sym (headed_list v (records_in lists.ve)) i;
  fe = sym (headed_list v (records_in lists.fe)) i;
}

-- the records under another head
pub records_headed : (h other : CellHead) (names : List (RecName × Held)) (lists : FileLists) → AreRecords names lists (cell_of h lists)
    → AreRecords names lists (cell_of other lists)
records_headed h other names lists records = record {
  kinds = record { vi = records.kinds.vi; vc = records.kinds.vc; ve = records.kinds.ve; fe = records.kinds.fe };
  held = records.held;
  placed = records.placed;
}

abbrev record_of : Held → Rec
record_of held = held.rec

ranks_same : (k : Kind) → (kind_rank k == kind_rank k) ≡ true
ranks_same Vi = refl
ranks_same Vc = refl
ranks_same Ve = refl
ranks_same Fe = refl
ranks_same HeadKind = refl

not_true : (b : Bool) → not b ≡ true → b ≡ false
not_true true h = cc
not_true false h = refl

numbers_exact : (a b : ℕ) → is_eq (nat_cmp a b) ≡ true → a ≡ b
numbers_exact a b hit = nat_cmp-IsAntisymmetric a b ((Equal-is (nat_cmp a b)).0 hit)

-- ---- one edit of a record
module _ (e : Edit) (h : CellHead) (names : List (RecName × Held)) (lists : FileLists) (fit : FindTheirRecords (e ∷ []) (cell_of h lists))
    (records : AreRecords names lists (cell_of h lists)) (ascending : (k : Kind) → IsAscending nat_cmp (rows_of k lists)) where
  abbrev c : Cell
  c = cell_of h lists

  has : has_its_record c e ≡ true
  has = each_passes (has_its_record c) e (e ∷ []) fit.found (inl refl)

  -- the record of a name that is there stands at its number
  placed_at : (n : RecName) (held : Held) → value_of name_order names n ≡ Some held → value_of nat_cmp (rows_of n.kind lists) held.place ≡ Some held.rec
  placed_at n held is = records.placed n held is

  named_at : (n : RecName) (held : Held) → value_of name_order names n ≡ Some held → name_of held.rec ≡ n
  named_at n held is =
      let listed : listed_record c n ≡ Some held.rec = sym (records.held n) ∙ ap (option_map (λ (h : Held). h.rec)) is in
      sym (one_when_same n (name_of held.rec) (found (is_named n) (all_records c) held.rec listed).passes)

  -- a record of the lists isn't of the head's kind
  distinct_rows : (k : Kind) → HaveDistinctNames (records_in (rows_of k lists))
  distinct_rows k = subst HaveDistinctNames (rows_list h lists k) (distinct_list c (names_listed (e ∷ []) c fit) k)

  -- no record of the lists has the head's kind
  no_head : AllByRecursion (λ s. is_of_kind HeadKind (name_of s) ≡ false) (all_records c)
  no_head =
      let other = λ (k : Kind) (is : (kind_rank k == kind_rank HeadKind) ≡ false).
      each_weaker (IsOfKind k) (λ s. is_of_kind HeadKind (name_of s) ≡ false) (λ s own. ap (λ j. kind_rank j == kind_rank HeadKind) own ∙ is)
      (list_of_kind k c) (kind_list c records.kinds k) in
      each_append (λ s. is_of_kind HeadKind (name_of s) ≡ false) (c.vi ++ c.vc ++ c.ve) c.fe
      (each_append (λ s. is_of_kind HeadKind (name_of s) ≡ false) (c.vi ++ c.vc) c.ve
      (each_append (λ s. is_of_kind HeadKind (name_of s) ≡ false) c.vi c.vc (other Vi refl) (other Vc refl)) (other Ve refl)) (other Fe refl)

  -- a name that is listed isn't of the head's kind
  listed_by_kind : (n : RecName) (o : Option Rec) → listed_record c n ≡ o → is_some o ≡ true → is_of_kind HeadKind n ≡ false
  listed_by_kind n None is some = cc
  listed_by_kind n (Some s) is some =
      let hit = found (is_named n) (all_records c) s is in
      ap (is_of_kind HeadKind) (one_when_same n (name_of s) hit.passes) ∙ known_of (λ s. is_of_kind HeadKind (name_of s) ≡ false) s
      (all_records c) no_head hit.among

  -- ---- rows of the name's kind that change at its number
  module _ (m : RecName) (place : ℕ) (at : IsPlaceFor (value_of name_order names m) (rows_of m.kind lists) place) where
    abbrev rows : List (ℕ × Rec)
    rows = rows_of m.kind lists

    -- a record that stands at the number has the name
    taken_by : (o : Option Held) → value_of name_order names m ≡ o → IsPlaceFor o rows place → (s : Rec) → value_of nat_cmp rows place ≡ Some s → name_of s ≡ m
    taken_by None is below s there =
        absurd (none-some s (sym (ap (λ all. value_of nat_cmp all place) (sym (append-nil rows)) ∙ value_of-append_below nat_cmp rows [] place below) ∙ there))
    taken_by (Some held) is same s there =
        let one : held.rec ≡ s = same_Some held.rec s (sym (placed_at m held is) ∙ ap (value_of nat_cmp rows) (sym same) ∙ there) in
        ap name_of (sym one) ∙ named_at m held is

    taken : (s : Rec) → value_of nat_cmp rows place ≡ Some s → name_of s ≡ m
    taken = taken_by (value_of name_order names m) refl at

    module _ (after : List (ℕ × Rec)) (put : Option Rec) (changed : (q : ℕ) → value_of nat_cmp after q ≡ cond (is_eq (nat_cmp place q)) put
        (value_of nat_cmp rows q)) (unlike : m.kind ≡ HeadKind → ⊥) where
      -- the records of other names stand where they stood
      same_list_by : (n : RecName) (held : Held) → is_eq (name_order m n) ≡ false → value_of name_order names n ≡ Some held → n.kind ≡ m.kind
          → (hit : Bool) → is_eq (nat_cmp place held.place) ≡ hit → cond hit put (value_of nat_cmp rows held.place) ≡ Some held.rec
      same_list_by n held apart is kind false miss = ap (λ k. value_of nat_cmp (rows_of k lists) held.place) (sym kind) ∙ placed_at n held is
      same_list_by n held apart is kind true hit =
          let there : value_of nat_cmp rows place ≡ Some held.rec =
          ap (value_of nat_cmp rows) (numbers_exact place held.place hit) ∙ ap (λ k. value_of nat_cmp (rows_of k lists) held.place) (sym kind)
          ∙ placed_at n held is in
          let one : n ≡ m = sym (named_at n held is) ∙ taken held.rec there in
          absurd (contradiction (is_eq (name_order m n)) apart (ap (λ k. is_eq (name_order m k)) one ∙ ap is_eq (tied_itself total_names m)))

      kind_by : (n : RecName) (held : Held) → is_eq (name_order m n) ≡ false → value_of name_order names n ≡ Some held
          → (same : Bool) → (kind_rank n.kind == kind_rank m.kind) ≡ same
          → value_of nat_cmp (rows_of n.kind (with_rows m.kind after lists)) held.place ≡ Some held.rec
      kind_by n held apart is false other = ap (λ all. value_of nat_cmp all held.place) (other_rows n.kind m.kind after lists other) ∙ placed_at n held is
      kind_by n held apart is true same =
          let kind : n.kind ≡ m.kind = one_kind n.kind m.kind same in
          ap (λ k. value_of nat_cmp (rows_of k (with_rows m.kind after lists)) held.place) kind
          ∙ ap (λ all. value_of nat_cmp all held.place) (own_rows m.kind after lists unlike)
          ∙ changed held.place
          ∙ same_list_by n held apart is kind (is_eq (nat_cmp place held.place)) refl

      stays_placed : (n : RecName) (held : Held) → is_eq (name_order m n) ≡ false → value_of name_order names n ≡ Some held
          → value_of nat_cmp (rows_of n.kind (with_rows m.kind after lists)) held.place ≡ Some held.rec
      stays_placed n held apart is = kind_by n held apart is (kind_rank n.kind == kind_rank m.kind) refl

  -- ---- a record that is left
  module _ (leave : EditsLeaveTheirRecords) (r : Rec) (left : left_by e ≡ Some r) (place : ℕ)
      (at : IsPlaceFor (value_of name_order names (name_of r)) (rows_of (name_of r).kind lists) place) where
    abbrev own_list : List (ℕ × Rec)
    own_list = rows_of (name_of r).kind lists

    abbrev put_list : List (ℕ × Rec)
    put_list = with_row nat_cmp own_list place r

    abbrev put_held : Held
    put_held = record { place = place; rec = r }

    listed_is : (o : Option Held) → value_of name_order names (name_of r) ≡ o → listed_record c (name_of r) ≡ option_map record_of o
    listed_is o is = sym (records.held (name_of r)) ∙ ap (option_map record_of) is

    own_by : (edit : Edit) (o : Option Held) → value_of name_order names (name_of r) ≡ o → left_by edit ≡ Some r → has_its_record c edit ≡ true
        → IsPlaceFor o own_list place
        → filter_map (edited_record (edit ∷ [])) (records_in own_list) ++ filter (λ s. is_of_kind (name_of r).kind (name_of s))
        (filter_map added_by (edit ∷ [])) ≡ records_in put_list
    own_by (Add s) None is gives new below =
        let same : r ≡ s = cc in
        subst (λ s. filter_map (edited_record (Add s ∷ [])) (records_in own_list) ++ filter (λ s. is_of_kind (name_of r).kind (name_of s))
        (filter_map added_by (Add s ∷ [])) ≡ records_in put_list) same
        (ap (λ b. filter_map (edited_record (Add r ∷ [])) (records_in own_list) ++ cond b (r ∷ []) []) (ranks_same (name_of r).kind)
        ∙ add_list r own_list place below)
    own_by (Add s) (Some held) is gives new below =
        let same : s ≡ r = cc in
        absurd (contradiction (not (is_some (listed_record c (name_of r)))) (ap (λ o. not (is_some o)) (listed_is (Some held) is))
        (ap (λ s. not (is_some (listed_record c (name_of s)))) (sym same) ∙ new))
    own_by (Set s) None is gives new below =
        let same : s ≡ r = cc in
        absurd (contradiction (is_some (listed_record c (name_of r))) (ap is_some (listed_is None is))
        (ap (λ s. is_some (listed_record c (name_of s))) (sym same) ∙ new))
    own_by (Set s) (Some held) is gives new below =
        let same : r ≡ s = cc in
        subst (λ s. filter_map (edited_record (Set s ∷ [])) (records_in own_list) ++ [] ≡ records_in put_list) same
        (append-nil (filter_map (edited_record (Set r ∷ [])) (records_in own_list))
        ∙ set_list r own_list place held.rec (ascending (name_of r).kind) (distinct_rows (name_of r).kind)
        (ap (value_of nat_cmp own_list) below ∙ placed_at (name_of r) held is) (named_at (name_of r) held is))
    own_by (Del n) o is gives new below = cc
    own_by (Head v) o is gives new below = cc

    name_left : (edit : Edit) → left_by edit ≡ Some r → name_of_edit edit ≡ name_of r
    name_left (Add s) gives = let same : s ≡ r = cc in ap name_of same
    name_left (Set s) gives = let same : s ≡ r = cc in ap name_of same
    name_left (Del n) gives = cc
    name_left (Head v) gives = cc

    not_of_head : (edit : Edit) → left_by edit ≡ Some r → is_head_edit edit ≡ false
    not_of_head (Add s) gives = refl
    not_of_head (Set s) gives = refl
    not_of_head (Del n) gives = refl
    not_of_head (Head v) gives = cc

    kind_left : (edit : Edit) → e ≡ edit → left_by edit ≡ Some r → is_of_kind HeadKind (name_of r) ≡ false
    kind_left (Add s) same gives =
        let one : s ≡ r = cc in
        not_true (is_of_kind HeadKind (name_of r)) (ap has_a_list (sym one)
        ∙ each_passes has_a_list s (filter_map added_by (Add s ∷ []))
        (ap (λ edit. list_all has_a_list (filter_map added_by (edit ∷ []))) (sym same) ∙ fit.placed) (inl refl))
    kind_left (Set s) same gives =
        let one : s ≡ r = cc in
        listed_by_kind (name_of r) (listed_record c (name_of r)) refl (ap (λ s. is_some (listed_record c (name_of s))) (sym one)
        ∙ ap (has_its_record c) (sym same) ∙ has)
    kind_left (Del n) same gives = cc
    kind_left (Head v) same gives = cc

    not_head : (name_of r).kind ≡ HeadKind → ⊥
    not_head is = contradiction (is_of_kind HeadKind (name_of r)) (kind_left e refl left) (ap (λ k. kind_rank k == kind_rank HeadKind) is)

    pub cell_put : cell_of h (with_rows (name_of r).kind put_list lists) ≡ apply_edits (e ∷ []) c
    cell_put =
        cell_after e h lists (name_of r).kind put_list (ap (λ n. n.kind) (name_left e left)) not_head (not_of_head e left) records.kinds
        (ap (λ xs. filter_map (edited_record (e ∷ [])) xs ++ filter (λ s. is_of_kind (name_of r).kind (name_of s))
        (filter_map added_by (e ∷ []))) (rows_list h lists (name_of r).kind)
        ∙ own_by e (value_of name_order names (name_of r)) refl left has at)

    left_listed : (edit : Edit) (old : Option Rec) → left_by edit ≡ Some r → Some r ≡ listed_by old (Some edit)
    left_listed (Add s) old gives = sym gives
    left_listed (Set s) old gives = sym gives
    left_listed (Del n) old gives = cc
    left_listed (Head v) old gives = cc

    held_put_by : (hit : Bool) (o : Option Held) → option_map record_of (cond hit (Some put_held) o) ≡ listed_by (option_map record_of o)
        (cond hit (Some e) None)
    held_put_by true o = left_listed e (option_map record_of o) left
    held_put_by false o = refl

    placed_put_by : (n : RecName) (held : Held) (hit : Bool) → is_eq (name_order (name_of r) n) ≡ hit
        → cond hit (Some put_held) (value_of name_order names n) ≡ Some held
        → value_of nat_cmp (rows_of n.kind (with_rows (name_of r).kind put_list lists)) held.place ≡ Some held.rec
    placed_put_by n held false apart is =
        stays_placed (name_of r) place at put_list (Some r) (λ q. value_of-with_row nat_cmp nat_cmp_total own_list place q r) not_head n held apart is
    placed_put_by n held true tie is =
        let same : put_held ≡ held = cc in
        let name : name_of r ≡ n = exact_names (name_of r) n ((Equal-is (name_order (name_of r) n)).0 tie) in
        subst (λ (held : Held). value_of nat_cmp (rows_of n.kind (with_rows (name_of r).kind put_list lists)) held.place ≡ Some held.rec) same
        (ap (λ k. value_of nat_cmp (rows_of k (with_rows (name_of r).kind put_list lists)) place) (ap (λ n. n.kind) (sym name))
        ∙ ap (λ all. value_of nat_cmp all place) (own_rows (name_of r).kind put_list lists not_head)
        ∙ value_of-with_row nat_cmp nat_cmp_total own_list place place r
        ∙ ap (λ b. cond b (Some r) (value_of nat_cmp own_list place)) (ap is_eq (tied_itself nat_cmp_total place)))

    pub records_put : AreRecords (with_row name_order names (name_of r) put_held) (with_rows (name_of r).kind put_list lists) (apply_edits (e ∷ []) c)
    records_put = record {
      kinds = kinds_after (e ∷ []) c records.kinds;
      held = λ n.
          ap (option_map record_of) (value_of-with_row name_order total_names names (name_of r) n put_held)
          ∙ held_put_by (is_eq (name_order (name_of r) n)) (value_of name_order names n)
          ∙ (λ i. listed_by (records.held n i) (cond ((names_tie (name_of r) n ∙ same_from_either n (name_of r)
          ∙ ap (λ m. same_name m n) (sym (name_left e left))) i) (Some e) None))
          ∙ sym ((leave (e ∷ []) c fit).listed n);
      placed = λ n held is.
          placed_put_by n held (is_eq (name_order (name_of r) n)) refl (sym (value_of-with_row name_order total_names names (name_of r) n put_held) ∙ is);
    }

  -- ---- a record that goes
  module _ (leave : EditsLeaveTheirRecords) (n : RecName) (deletes : e ≡ Del n) (place : ℕ) (rise : IsAscending name_order names)
      (at : IsPlaceFor (value_of name_order names n) (rows_of n.kind lists) place) where
    abbrev gone_from : List (ℕ × Rec)
    gone_from = without_key nat_cmp (rows_of n.kind lists) place

    listed_some : is_some (listed_record c n) ≡ true
    listed_some = ap (has_its_record c) (sym deletes) ∙ has

    not_head_gone : n.kind ≡ HeadKind → ⊥
    not_head_gone is = contradiction (is_of_kind HeadKind n) (listed_by_kind n (listed_record c n) refl listed_some)
        (ap (λ k. kind_rank k == kind_rank HeadKind) is)

    gone_by_place : (o : Option Held) → value_of name_order names n ≡ o → IsPlaceFor o (rows_of n.kind lists) place
        → filter_map (edited_record (Del n ∷ [])) (records_in (rows_of n.kind lists)) ++ [] ≡ records_in gone_from
    gone_by_place None is below =
        absurd (contradiction (is_some (listed_record c n)) (ap is_some (sym (records.held n) ∙ ap (option_map record_of) is)) listed_some)
    gone_by_place (Some held) is same =
        append-nil (filter_map (edited_record (Del n ∷ [])) (records_in (rows_of n.kind lists)))
        ∙ gone_list n (rows_of n.kind lists) place held.rec (ascending n.kind) (distinct_rows n.kind)
        (ap (value_of nat_cmp (rows_of n.kind lists)) same ∙ placed_at n held is) (named_at n held is)

    pub cell_gone : cell_of h (with_rows n.kind gone_from lists) ≡ apply_edits (e ∷ []) c
    cell_gone =
        cell_after e h lists n.kind gone_from (ap (λ edit. (name_of_edit edit).kind) deletes) not_head_gone (ap is_head_edit deletes) records.kinds
        (ap (λ edit. edited_list (edit ∷ []) n.kind c) deletes
        ∙ ap (λ xs. filter_map (edited_record (Del n ∷ [])) xs ++ []) (rows_list h lists n.kind)
        ∙ gone_by_place (value_of name_order names n) refl at)

    held_gone_by : (hit : Bool) (o : Option Held) → option_map record_of (cond hit None o) ≡ listed_by (option_map record_of o) (cond hit (Some (Del n)) None)
    held_gone_by true o = refl
    held_gone_by false o = refl

    placed_gone_by : (m : RecName) (held : Held) (hit : Bool) → is_eq (name_order n m) ≡ hit → cond hit None (value_of name_order names m) ≡ Some held
        → value_of nat_cmp (rows_of m.kind (with_rows n.kind gone_from lists)) held.place ≡ Some held.rec
    placed_gone_by m held true tie is = cc
    placed_gone_by m held false apart is =
        stays_placed n place at gone_from None (λ q. value_of-without_key nat_cmp nat_cmp_total (rows_of n.kind lists) place q
        (ascending n.kind)) not_head_gone m held apart is

    pub records_gone : AreRecords (without_key name_order names n) (with_rows n.kind gone_from lists) (apply_edits (e ∷ []) c)
    records_gone = record {
      kinds = kinds_after (e ∷ []) c records.kinds;
      held = λ m.
          ap (option_map record_of) (value_of-without_key name_order total_names names n m rise)
          ∙ held_gone_by (is_eq (name_order n m)) (value_of name_order names m)
          ∙ (λ i. listed_by (records.held m i) (cond ((names_tie n m ∙ same_from_either m n) i) (Some (Del n)) None))
          ∙ ap (λ edit. listed_by (listed_record c m) (edit_of m (edit ∷ []))) (sym deletes)
          ∙ sym ((leave (e ∷ []) c fit).listed m);
      placed = λ m held is.
          placed_gone_by m held (is_eq (name_order n m)) refl (sym (value_of-without_key name_order total_names names n m rise) ∙ is);
    }
