-- What the cell's refusal tells, and what it tells that there is none.
use Rattle.std.proofs.Common.{◌≡◌, ℕ, Bool, true, false, if◌then◌else◌, List, [], ◌∷◌, length, take, All, Option, None, Some, is_some, filter_map}
use Rattle.std.proofs.Common.{refl, ap, subst, suc}
use Rattle.std.specs.Prelude.{slice_get, nat_lt, not}
use Rattle.std.specs.List.{cons_option}
use Rattle.std.specs.Option.{option_map_or}
use Rattle.std.proofs.lemmas.Bool.{ltb-false, ltb-true}
use Rattle.std.proofs.lemmas.List.Elements.{All-nil, All-cons, All-weaker}
use Rattle.s57_types.specs.RecordFields.{identification_length}
use Rattle.s57_types.specs.declared.cell.Cell.{Cell}
use Rattle.cell_spec.specs.Edits.{apply_edits, has_its_record, head_after, leave_a_long_head}
use Rattle.cell_spec.specs.Lookup.{all_records, listed_record, name_of}
use Rattle.cell_spec.specs.Writable.{record_limit}
use Rattle.cell_spec.specs.declared.edit.Edit.{Edit}
use Rattle.cell_spec.specs.declared.edit.Edit.TheVariants.{Add, Set, Del, Head}
use Rattle.rule_spec.specs.Findings.{finding_total}
use Rattle.history_spec.specs.Steps.{edit_refusal, finding_limit, first_of, size_refusal, state_refusal}
use Rattle.history_spec.specs.declared.refusal.StateRefusal.{StateRefusal}
use Rattle.history_spec.specs.declared.refusal.StateRefusal.TheVariants.{AddExists, SetMissing, DelMissing, CellFull, FindingsFull, HeadTooLong}
use Rattle.run_laws.specs.Refusals.{AreTaken, EachFinds, HaveRoom, ShowsRefusal}

-- ---- the first item that has an answer
module _ {X R : Type 0} (f : X → Option R) where
  pub record IsFirstOf (xs : List X) (r : R) : Type 0 where
    pub place : ℕ
    pub item : X
    pub there : slice_get xs place ≡ Some item
    pub gives : f item ≡ Some r
    pub before : All (λ x. f x ≡ None) (take place xs)

  abbrev pub FirstOf : List X → Option R → Type 0
  FirstOf xs None = All (λ x. f x ≡ None) xs
  FirstOf xs (Some r) = IsFirstOf xs r

  behind : (x : X) (xs : List X) (o : Option R) → f x ≡ None → FirstOf xs o → FirstOf (x ∷ xs) o
  behind x xs None none rest = All-cons (λ y. f y ≡ None) x xs none rest
  behind x xs (Some r) none rest = record {
    place = suc rest.place;
    item = rest.item;
    there = rest.there;
    gives = rest.gives;
    before = All-cons (λ y. f y ≡ None) x (take rest.place xs) none rest.before;
  }

  with_head : (x : X) (xs : List X) (o : Option R) (later : List R) → f x ≡ o → FirstOf xs (first_of later) → FirstOf (x ∷ xs) (first_of (cons_option o later))
  with_head x xs None later is rest = behind x xs (first_of later) is rest
  with_head x xs (Some r) later is rest = record { place = 0; item = x; there = refl; gives = is; before = All-nil (λ y. f y ≡ None) }

  pub first_of_all : (xs : List X) → FirstOf xs (first_of (filter_map f xs))
  first_of_all [] = All-nil (λ y. f y ≡ None)
  first_of_all (x ∷ xs) = with_head x xs (f x) (filter_map f xs) refl (first_of_all xs)

-- ---- an edit
finds : (c : Cell) (edit : Edit) → edit_refusal c edit ≡ None → has_its_record c edit ≡ true
finds c (Add r) none = by (is_some (listed_record c (name_of r))) none
  where
    by : (b : Bool) → (if b then Some (AddExists (name_of r)) else None) ≡ None → not b ≡ true
    by true e = cc
    by false e = refl
finds c (Set r) none = by (is_some (listed_record c (name_of r))) none
  where
    by : (b : Bool) → (if b then None else Some (SetMissing (name_of r))) ≡ None → b ≡ true
    by true e = refl
    by false e = cc
finds c (Del n) none = by (is_some (listed_record c n)) none
  where
    by : (b : Bool) → (if b then None else Some (DelMissing n)) ≡ None → b ≡ true
    by true e = refl
    by false e = cc
finds c (Head e) none = refl

each_finds : (c : Cell) (edits : List Edit) → All (λ edit. edit_refusal c edit ≡ None) edits → EachFinds c edits
each_finds c edits none = All-weaker (λ edit. edit_refusal c edit ≡ None) (λ edit. has_its_record c edit ≡ true) (finds c) edits none

module _ (c : Cell) (edits : List Edit) where
  untaken : (edit : Edit) (why : StateRefusal) (place : ℕ) → slice_get edits place ≡ Some edit → EachFinds c (take place edits)
      → edit_refusal c edit ≡ Some why → ShowsRefusal c edits why
  untaken (Add r) why place there before is = by (is_some (listed_record c (name_of r))) refl is
    where
      by : (b : Bool) → is_some (listed_record c (name_of r)) ≡ b → (if b then Some (AddExists (name_of r)) else None) ≡ Some why → ShowsRefusal c edits why
      by true found e = subst (ShowsRefusal c edits) (let same : AddExists (name_of r) ≡ why = cc in same)
          (record { item = r; first = record { place = place; there = there; without = ap not found; before = before }; named = refl })
      by false found e = cc
  untaken (Set r) why place there before is = by (is_some (listed_record c (name_of r))) refl is
    where
      by : (b : Bool) → is_some (listed_record c (name_of r)) ≡ b → (if b then None else Some (SetMissing (name_of r))) ≡ Some why
          → ShowsRefusal c edits why
      by true found e = cc
      by false found e = subst (ShowsRefusal c edits) (let same : SetMissing (name_of r) ≡ why = cc in same)
          (record { item = r; first = record { place = place; there = there; without = found; before = before }; named = refl })
  untaken (Del n) why place there before is = by (is_some (listed_record c n)) refl is
    where
      by : (b : Bool) → is_some (listed_record c n) ≡ b → (if b then None else Some (DelMissing n)) ≡ Some why → ShowsRefusal c edits why
      by true found e = cc
      by false found e = subst (ShowsRefusal c edits) (let same : DelMissing n ≡ why = cc in same)
          (record { place = place; there = there; without = found; before = before })
  untaken (Head e) why place there before is = cc

  -- ---- all refusals
  abbrev pub RefusalTold : Option StateRefusal → Type 0
  RefusalTold None = AreTaken c edits
  RefusalTold (Some why) = ShowsRefusal c edits why

  by_size : EachFinds c edits → RefusalTold (size_refusal c edits)
  by_size found = by_records (nat_lt record_limit records) refl
    where
      records : ℕ
      records = length (all_records (apply_edits edits c))

      many : Option StateRefusal
      many = if nat_lt finding_limit (finding_total (apply_edits edits c)) then Some FindingsFull else None

      bytes : ℕ
      bytes = identification_length (head_after edits c.head)

      by_findings : HaveRoom c edits → leave_a_long_head edits c ≡ false → (b : Bool) → nat_lt finding_limit (finding_total (apply_edits edits c)) ≡ b
          → RefusalTold (if b then Some FindingsFull else None)
      by_findings room short true over =
          record { room = room; short = short; over = ltb-true finding_limit (finding_total (apply_edits edits c)) over }
      by_findings room short false within =
          record { room = room; short = short; within = ltb-false finding_limit (finding_total (apply_edits edits c)) within }

      by_head : HaveRoom c edits → (b : Bool) → leave_a_long_head edits c ≡ b → RefusalTold (if b then Some (HeadTooLong bytes) else many)
      by_head room true long = record { room = room; long = long; bytes_are = refl }
      by_head room false short = by_findings room short (nat_lt finding_limit (finding_total (apply_edits edits c))) refl

      by_records : (b : Bool) → nat_lt record_limit records ≡ b
          → RefusalTold (if b then Some (CellFull records) else (if leave_a_long_head edits c then Some (HeadTooLong bytes) else many))
      by_records true over = record { found = found; count_is = refl; over = ltb-true record_limit records over }
      by_records false within =
          by_head (record { found = found; room = ltb-false record_limit records within }) (leave_a_long_head edits c) refl

  by_edits : (o : Option StateRefusal) → FirstOf (edit_refusal c) edits o → RefusalTold (option_map_or Some o (size_refusal c edits))
  by_edits None none = by_size (each_finds c edits none)
  by_edits (Some why) first = untaken first.item why first.place first.there (each_finds c (take first.place edits) first.before) first.gives

  pub refusal_told : RefusalTold (state_refusal c edits)
  refusal_told = by_edits (first_of (filter_map (edit_refusal c) edits)) (first_of_all (edit_refusal c) edits)
