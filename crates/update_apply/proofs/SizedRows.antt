-- The fault of a field whose rows take so many bytes each, whatever these are.
use Rattle.std.proofs.Common.{◌≡◌, ℕ, zero, suc, ◌+◌, ◌-◌, ◌*◌, ◌%◌, ◌<◌, ◌≤◌, ◌==◌, Bool, true, false, cond, List, [], ◌∷◌, length, take, drop}
use Rattle.std.proofs.Common.{Option, Some, None, inl, inr, refl, sym, ap, ◌∙◌, arith}
use Rattle.std.specs.List.{list_all}
use Rattle.std.specs.Result.{result_err}
use Rattle.std.specs.Prelude.{ℤ}
use Rattle.std.specs.Int.{w32, cast_signed}
use Rattle.std.proofs.Math.Nat.{mod-eq_of_lt, mod-eq-sub-mod, zero-mod}
use Rattle.std.proofs.lemmas.Bool.{cases_lt, lt-ltb, le-ltb, ne_eqb}
use Rattle.std.proofs.lemmas.List.{length-drop}
use Rattle.byteorder.specs.Endian.{little_number}
use Rattle.field_spec.specs.Contents.{plane_content, deep_content}
use Rattle.field_spec.specs.Cutting.{before_terminator, cut_row}
use Rattle.field_spec.specs.declared.fault.FieldFault.TheVariants.{BadField}
use Rattle.s57_types.specs.Subfield.{Form, Subfield, is_plain, signed, signed_of}
use Rattle.s57_fields.specs.RowCutting.{take_row, with_front, rows_after, rows_from, content_of_rows, field_content}
use Rattle.s57_fields.specs.RowLayouts.{RowLayout, plane_layout, deep_layout}
use Rattle.s57_fields.proofs.JudgedRows.{field_content-body}
use Rattle.update_apply.specs.RowSizes.{fault_of_length, size_fault}

-- the row with which bytes begin
record IsTaken {X : Type 0} (layout : RowLayout X) (size : ℕ) (b : List ℕ) : Type 0 where
  row : X
  rest : List ℕ
  is : take_row layout b ≡ Some (row, true, rest)
  shorter : length rest + size ≡ length b

-- any bytes, so many, are a row
record IsSized {X : Type 0} (layout : RowLayout X) (size : ℕ) : Type 0 where
  some : 0 < size
  short : (b : List ℕ) → length b < size → take_row layout b ≡ None
  taken : (b : List ℕ) → size ≤ length b → IsTaken layout size b

same_fault : {X : Type 0} (xs ys : List X) (plain : Bool) → result_err (content_of_rows (Some (xs, plain))) ≡ result_err (content_of_rows (Some (ys, plain)))
same_fault xs ys true = refl
same_fault xs ys false = refl

front_fault : {X : Type 0} (x : X) (rows : Option (List X × Bool)) → result_err (content_of_rows (with_front (x ∷ []) true rows)) ≡ result_err
    (content_of_rows rows)
front_fault x None = refl
front_fault x (Some rows) = same_fault (x ∷ rows.0) rows.0 rows.1

some_left : (size n : ℕ) → 0 < n → n < size → fault_of_length size n ≡ Some BadField
some_left size n some short =
    let left : (n % size == 0) ≡ false = ne_eqb (n % size) 0 (λ none. absurd (omega (arith, mod-eq_of_lt short, none, some))) in
    ap (λ whole. cond whole None (Some BadField)) left

one_less : (size n m : ℕ) → m + size ≡ n → fault_of_length size m ≡ fault_of_length size n
one_less size n m more =
    let less : n - size ≡ m = omega (arith, more) in
    let within : size ≤ n = omega (arith, more) in
    ap (λ k. cond (k == 0) None (Some BadField)) (sym (mod-eq-sub-mod {n = n} {m = size} within ∙ ap (λ k. k % size) less))

module _ {X : Type 0} (layout : RowLayout X) (size : ℕ) (sized : IsSized layout size) where
  next : (n : ℕ) → ((rest : List ℕ) → length rest ≤ n → result_err (content_of_rows (rows_from layout n rest)) ≡ fault_of_length size (length rest))
      → (b : List ℕ) → 0 < length b → length b ≤ suc n
      → result_err (content_of_rows (rows_after (rows_from layout n) (take_row layout b))) ≡ fault_of_length size (length b)
  next n others b some within = elim (cases_lt (length b) size) [
    | inl short ↦ ap (λ t. result_err (content_of_rows (rows_after (rows_from layout n) t))) (sized.short b short)
        ∙ sym (some_left size (length b) some short)
    | inr long ↦
        let t = sized.taken b long in
        ap (λ r. result_err (content_of_rows (rows_after (rows_from layout n) r))) t.is
        ∙ front_fault t.row (rows_from layout n t.rest)
        ∙ others t.rest (omega (arith, t.shorter, sized.some, within))
        ∙ one_less size (length b) (length t.rest) t.shorter
  ]

  rows_fault : (n : ℕ) (b : List ℕ) → length b ≤ n → result_err (content_of_rows (rows_from layout n b)) ≡ fault_of_length size (length b)
  unfolding rows_from
  rows_fault n [] within = sym (ap (λ k. cond (k == 0) None (Some BadField)) (zero-mod size))
  rows_fault zero (c ∷ b) within = absurd (omega arith)
  rows_fault (suc n) (c ∷ b) within = next n (rows_fault n) (c ∷ b) (omega arith) within

  field_fault : (b : List ℕ) → size_fault size b ≡ result_err (field_content layout 0 b)
  field_fault b = by (before_terminator b) refl
    where
      by : (body : Option (List ℕ)) → before_terminator b ≡ body → size_fault size b ≡ result_err (field_content layout 0 b)
      by None is = rw is refl
      by (Some body) is =
          let cut : size_fault size b ≡ fault_of_length size (length body) = rw is refl in
          cut ∙ sym (ap result_err (field_content-body layout 0 b body is) ∙ rows_fault (length body) body (omega arith))

-- signed numbers of four bytes
abbrev number : List ℕ → ℤ
number b = cast_signed w32 (little_number 4 (take 4 b))

abbrev numbers : ℕ → List Form
numbers zero = []
numbers (suc n) = signed ∷ numbers n

too_few : (n : ℕ) (b : List ℕ) → length b < n * 4 → cut_row (numbers n) b ≡ None
too_few zero b few = absurd (omega (arith, few))
too_few (suc n) b few = elim (cases_lt (length b) 4) [
  | inl none ↦ rw (lt-ltb (length b) 4 none) refl
  | inr one ↦
      let fewer : length (drop 4 b) < n * 4 = omega (arith, few, one, length-drop 4 b) in
      rw (le-ltb (length b) 4 one, too_few n (drop 4 b) fewer) refl
]

-- the numbers with which bytes begin
record AreCut (n : ℕ) (b : List ℕ) : Type 0 where
  row : List Subfield
  rest : List ℕ
  is : cut_row (numbers n) b ≡ Some (row, rest)
  plain : list_all is_plain row ≡ true
  shorter : length rest + n * 4 ≡ length b

cut : (n : ℕ) (b : List ℕ) → n * 4 ≤ length b → AreCut n b
cut zero b enough = record { row = []; rest = b; is = refl; plain = refl; shorter = omega arith }
cut (suc n) b enough =
    let one : 4 ≤ length b = omega (arith, enough) in
    let more : n * 4 ≤ length (drop 4 b) = omega (arith, enough, length-drop 4 b) in
    let others = cut n (drop 4 b) more in
    record {
      row = signed_of (number b) ∷ others.row;
      rest = others.rest;
      is = rw (le-ltb (length b) 4 one, others.is) refl;
      plain = others.plain;
      shorter = omega (arith, enough, others.shorter, length-drop 4 b);
    }

-- any bytes, so many, are a row of so many numbers
numbers_sized : {X : Type 0} (layout : RowLayout X) (n : ℕ) → 0 < n → layout.forms ≡ numbers n → ((row : List Subfield) → layout.good row ≡ true)
    → IsSized layout (n * 4)
numbers_sized layout n some forms any = record {
  some = omega (arith, some);
  short = λ b few. rw (forms, too_few n b few) refl;
  taken = λ b enough.
      let c = cut n b enough in
      record { row = layout.value c.row; rest = c.rest; is = rw (forms, c.is, any c.row, c.plain) refl; shorter = c.shorter };
}

-- any numbers are coordinates
pub plane_fault : (b : List ℕ) → size_fault 8 b ≡ result_err (plane_content b)
unfolding plane_content
plane_fault b = field_fault plane_layout 8 (numbers_sized plane_layout 2 (omega arith) refl (λ row. refl)) b

pub deep_fault : (b : List ℕ) → size_fault 12 b ≡ result_err (deep_content b)
unfolding deep_content
deep_fault b = field_fault deep_layout 12 (numbers_sized deep_layout 3 (omega arith) refl (λ row. refl)) b
