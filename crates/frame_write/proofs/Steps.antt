-- One step of a writer's loops.
use Rattle.std.proofs.Common.{◌≡◌, ◌≤◌, ◌<◌, ℕ, ◌+◌, List, ◌∷◌, ◌++◌, length, take, drop, get_or, max, sym, ap, ◌∙◌, subst, arith, append_assoc}
use Rattle.std.specs.Prelude.{fold, sum}
use Rattle.std.proofs.lemmas.List.{at_drop_more, length-map, get_or-map, length-take, take-append-le, take-append-drop}
use Rattle.std.proofs.lemmas.List.Sums.{fold_more, sum_by_more, sum_by_more_le}
use Rattle.frame_spec.specs.RecordFrame.{Field}
use Rattle.frame_spec.specs.WrittenRecord.{digits, directory_entries}
use Rattle.frame_write.specs.OutFields.{field_of, fields_of, lengths_of}
use Rattle.frame_write.specs.declared.field.OutField.{OutField}

-- there are as many lengths as fields
pub count_is : (fields : List OutField) → length (lengths_of fields) ≡ length fields
count_is fields = length-map (fields_of fields) (λ (f : Field). length f.bytes) ∙ length-map fields field_of

-- the field of this turn, and its length
pub field_turn : (fields : List OutField) (i : ℕ) (field : OutField) (d : Field) → i < length fields → field ≡ get_or fields i field
    → get_or (fields_of fields) i d ≡ field_of field
field_turn fields i field d below is = get_or-map field_of fields i field d below ∙ ap field_of (sym is)

length_turn : (fields : List OutField) (i : ℕ) (field : OutField) → i < length fields → field ≡ get_or fields i field
    → get_or (lengths_of fields) i 0 ≡ length field.bytes.items
length_turn fields i field below is =
    get_or-map (λ (f : Field). length f.bytes) (fields_of fields) i (field_of field) 0 (omega (arith, length-map fields field_of))
    ∙ ap (λ (f : Field). length f.bytes) (field_turn fields i field (field_of field) below is)

pub sum_more : (fields : List OutField) (i : ℕ) (field : OutField) → i < length fields → field ≡ get_or fields i field
    → sum (take (i + 1) (lengths_of fields)) ≡ sum (take i (lengths_of fields)) + length field.bytes.items
sum_more fields i field below is =
    sum_by_more (λ x. x) (lengths_of fields) i 0 (omega (arith, count_is fields)) ∙ ap (λ n. sum (take i (lengths_of fields)) + n)
    (length_turn fields i field below is)

pub sum_within : (fields : List OutField) (i : ℕ) (field : OutField) → i < length fields → field ≡ get_or fields i field
    → sum (take i (lengths_of fields)) + length field.bytes.items ≤ sum (lengths_of fields)
sum_within fields i field below is =
    subst (λ n. sum (take i (lengths_of fields)) + n ≤ sum (lengths_of fields)) (length_turn fields i field below is)
    (sum_by_more_le (λ x. x) (lengths_of fields) i 0 (omega (arith, count_is fields)))

pub longest_more : (fields : List OutField) (i : ℕ) (field : OutField) → i < length fields → field ≡ get_or fields i field
    → fold max 0 (take (i + 1) (lengths_of fields)) ≡ max (fold max 0 (take i (lengths_of fields))) (length field.bytes.items)
longest_more fields i field below is =
    fold_more max 0 (lengths_of fields) i 0 (omega (arith, count_is fields)) ∙ ap (max (fold max 0 (take i (lengths_of fields))))
    (length_turn fields i field below is)

-- the entries from the field of this turn on
pub entries_more : (m n position : ℕ) (fields : List OutField) (i : ℕ) (field : OutField) → i < length fields → field ≡ get_or fields i field
    → directory_entries m n position (drop i (fields_of fields))
    ≡ field.tag ++ digits m (length field.bytes.items) ++ digits n position ++ directory_entries m n (position + length field.bytes.items)
    (drop (i + 1) (fields_of fields))
entries_more m n position fields i field below is =
    let within : i < length (fields_of fields) = omega (arith, length-map fields field_of) in
    at_drop_more (directory_entries m n position) (fields_of fields) i (field_of field) within
    ∙ ap (λ (f : Field). directory_entries m n position (f ∷ drop (i + 1) (fields_of fields))) (field_turn fields i field (field_of field) below is)

-- three pieces that were appended, before others
pub appended : (out out1 out2 out3 x y z rest : List ℕ) → out1 ≡ out ++ x → out2 ≡ out1 ++ y → out3 ≡ out2 ++ z → out3 ++ rest ≡ out ++ (x ++ y ++ z ++ rest)
appended out out1 out2 out3 x y z rest one two three =
    ap (λ a. a ++ rest) (three ∙ ap (λ a. a ++ z) (two ∙ ap (λ a. a ++ y) one)) ∙ simp append_assoc

-- bytes that were appended leave those before
pub front_more : (a b x c : List ℕ) → take (length a) b ≡ a → c ≡ b ++ x → take (length a) c ≡ a
front_more a b x c front more =
    let shorter : length a ≤ length b = omega (arith, ap length front, length-take (length a) b) in
    subst (λ d. take (length a) d ≡ a) (sym more) (take-append-le (length a) b x shorter ∙ front)

pub front_through : (a b c : List ℕ) → take (length a) b ≡ a → take (length b) c ≡ b → take (length a) c ≡ a
front_through a b c front next =
    front_more a b (drop (length b) c) c front (sym (take-append-drop (length b) c) ∙ ap (λ x. x ++ drop (length b) c) next)
