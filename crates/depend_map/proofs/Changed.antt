-- What a change of a subject's reads leaves of the rows and of the pairs, and the pairs of rows that are read in.
use Rattle.std.proofs.Common.{◌≡◌, ◌&&◌, ◌||◌, Bool, true, false, List, [], ◌∷◌, ◌++◌, Option, None, Some, cond, refl, sym, ap, ◌∙◌, append_assoc}
use Rattle.std.proofs.Common.{Ordering, Less, Equal, Greater, is_eq}
use Rattle.std.specs.Cmp.{Equal-is}
use Rattle.std.specs.List.{AllByRecursion, list_any}
use Rattle.std.specs.List.Sorted.{IsStrictlySortedBy}
use Rattle.std.specs.Map.{keys_of}
use Rattle.std.specs.Option.{option_map_or}
use Rattle.std.specs.Ordering.{match_ordering}
use Rattle.std.proofs.lemmas.List.Folds.{list_any-append}
use Rattle.std.proofs.lemmas.Map.Keys.{sorted_head, sorted_tail}
use Rattle.std.proofs.lemmas.Option.{same_Some}
use Rattle.cell_spec.specs.declared.key.Key.{Key}
use Rattle.cell_spec.specs.declared.key.Subject.{Subject}
use Rattle.cell_spec.specs.Names.{same_key, same_subject, subject_order}
use Rattle.cell_spec.proofs.SubjectOrder.{exact_subjects, total_subjects}
use Rattle.rule_spec.specs.Affected.{is_single}
use Rattle.row_spec.specs.Rows.{IsAscending, value_of, with_row, without_key}
use Rattle.row_spec.proofs.Changes.{value_of-with_row, value_of-without_key}
use Rattle.row_spec.proofs.Place.{above_greater, above_tied, value_of-above}
use Rattle.depend_map.specs.Changes.{kept_of}
use Rattle.depend_map.specs.Readers.{AreReadersOf, has_pair, holds_key, is_reader, reader_rows, rows_under, same_pair}
use Rattle.depend_map.proofs.Pairs.{either_key}

-- ---- a row that is put again
same_by : (row : Subject × List Key) (rows : List (Subject × List Key)) (s : Subject) (keys : List Key) (o : Ordering) → subject_order row.0 s ≡ o
    → AllByRecursion (λ t. subject_order row.0 t ≡ Less) (keys_of rows)
    → cond (is_eq o) (Some row.1) (value_of subject_order rows s) ≡ Some keys
    → (value_of subject_order rows s ≡ Some keys → with_row subject_order rows s keys ≡ rows)
    → match_ordering o (row ∷ with_row subject_order rows s keys) ((s, keys) ∷ rows) ((s, keys) ∷ row ∷ rows) ≡ row ∷ rows
same_by row rows s keys Less is later has more = ap (λ rest. row ∷ rest) (more has)
same_by row rows s keys Equal is later has more = λ i. (sym (exact_subjects row.0 s is) i, sym (same_Some row.1 keys has) i) ∷ rows
same_by row rows s keys Greater is later has more =
    let none = value_of-above subject_order rows s (above_greater subject_order total_subjects row.0 s rows is later) in cc

pub with_same : (rows : List (Subject × List Key)) (s : Subject) (keys : List Key) → IsAscending subject_order rows
    → value_of subject_order rows s ≡ Some keys → with_row subject_order rows s keys ≡ rows
with_same [] s keys ascending has = cc
with_same (row ∷ rows) s keys ascending has =
    same_by row rows s keys (subject_order row.0 s) refl (sorted_head subject_order row.0 (keys_of rows) ascending) has
    (with_same rows s keys (sorted_tail subject_order row.0 (keys_of rows) ascending))

-- ---- the readers after a change
reads_put : (b : Bool) (k : Key) (keys : List Key) (o : Option (List Key)) (was : Bool) → was ≡ option_map_or (λ js. holds_key js k) o false
    → cond b (holds_key keys k) was ≡ option_map_or (λ js. holds_key js k) (cond b (Some keys) o) false
reads_put true k keys o was is = refl
reads_put false k keys o was is = is

reads_took : (b : Bool) (k : Key) (o : Option (List Key)) (was : Bool) → was ≡ option_map_or (λ js. holds_key js k) o false
    → cond b false was ≡ option_map_or (λ js. holds_key js k) (cond b None o) false
reads_took true k o was is = refl
reads_took false k o was is = is

module _ {V : Type 0} (rows : List (Subject × List Key)) (before after : List ((Key × Subject) × V)) (subject : Subject) where
  pub put_readers : (keys : List Key) → AreReadersOf rows before
      → ((k : Key) (s : Subject) → has_pair after k s ≡ cond (same_subject subject s) (holds_key keys k) (has_pair before k s))
      → AreReadersOf (with_row subject_order rows subject keys) after
  put_readers keys were is = record {
    exact = λ k s. is k s ∙ reads_put (same_subject subject s) k keys (value_of subject_order rows s) (has_pair before k s) (were.exact k s)
        ∙ ap (λ o. option_map_or (λ js. holds_key js k) o false) (sym (value_of-with_row subject_order total_subjects rows subject s keys));
  }

  pub took_readers : IsAscending subject_order rows → AreReadersOf rows before
      → ((k : Key) (s : Subject) → has_pair after k s ≡ cond (same_subject subject s) false (has_pair before k s))
      → AreReadersOf (without_key subject_order rows subject) after
  took_readers ascending were is = record {
    exact = λ k s. is k s ∙ reads_took (same_subject subject s) k (value_of subject_order rows s) (has_pair before k s) (were.exact k s)
        ∙ ap (λ o. option_map_or (λ js. holds_key js k) o false) (sym (value_of-without_key subject_order total_subjects rows subject s ascending));
  }

-- ---- rows that are read in
kept_by : (kept : List (Subject × List Key)) (row : Subject × List Key) (rest all : List (Subject × List Key)) (b : Bool)
    → kept ++ cond b (row ∷ kept_of rest) (kept_of rest) ≡ all → b ≡ true → (kept ++ row ∷ []) ++ kept_of rest ≡ all
kept_by kept row rest all true known is = append_assoc kept (row ∷ []) (kept_of rest) ∙ known
kept_by kept row rest all false known is = cc

-- one more row that is kept
pub more_kept : (kept : List (Subject × List Key)) (row : Subject × List Key) (rest all : List (Subject × List Key))
    → kept ++ kept_of (row ∷ rest) ≡ all → is_single row.0 ≡ true
    → (kept ++ row ∷ []) ++ kept_of rest ≡ all
more_kept kept row rest all known is = kept_by kept row rest all (is_single row.0) known is

-- rows that are kept ascend as all do
each_kept_by : (P : Subject → Type 0) (row : Subject × List Key) (rest : List (Subject × List Key)) (b : Bool) → P row.0
    → AllByRecursion P (keys_of (kept_of rest))
    → AllByRecursion P (keys_of (cond b (row ∷ kept_of rest) (kept_of rest)))
each_kept_by P row rest true here more = (here, more)
each_kept_by P row rest false here more = more

each_kept : (P : Subject → Type 0) (rows : List (Subject × List Key)) → AllByRecursion P (keys_of rows) → AllByRecursion P (keys_of (kept_of rows))
each_kept P [] all = tt
each_kept P (row ∷ rows) all = each_kept_by P row rows (is_single row.0) all.0 (each_kept P rows all.1)

ascends_by : (row : Subject × List Key) (rest : List (Subject × List Key)) (b : Bool)
    → AllByRecursion (λ s. subject_order row.0 s ≡ Less) (keys_of (kept_of rest)) → IsAscending subject_order (kept_of rest)
    → IsAscending subject_order (cond b (row ∷ kept_of rest) (kept_of rest))
unfolding IsStrictlySortedBy
ascends_by row rest true later more = (later, more)
ascends_by row rest false later more = more

pub kept_ascend : (rows : List (Subject × List Key)) → IsAscending subject_order rows → IsAscending subject_order (kept_of rows)
unfolding IsStrictlySortedBy
kept_ascend [] ascending = tt
kept_ascend (row ∷ rows) ascending =
    ascends_by row rows (is_single row.0) (each_kept (λ s. subject_order row.0 s ≡ Less) rows (sorted_head subject_order row.0 (keys_of rows) ascending))
    (kept_ascend rows (sorted_tail subject_order row.0 (keys_of rows) ascending))

-- the pairs of a row, and of all rows
spread : (a b t : Bool) → ((a && t) || (t && b)) ≡ (t && (a || b))
spread true b true = refl
spread true true false = refl
spread true false false = refl
spread false true t = refl
spread false false t = refl

of_row : (k : Key) (s t : Subject) (keys : List Key)
    → list_any (λ (row : (Key × Subject) × Unit {0}). same_pair row.0.0 row.0.1 k s) (rows_under t keys) ≡ (same_subject t s && holds_key keys k)
of_row k s t [] = and_false (same_subject t s)
  where
    and_false : (b : Bool) → false ≡ (b && false)
    and_false true = refl
    and_false false = refl
of_row k s t (j ∷ keys) =
    (λ i. (either_key j k i && same_subject t s) || of_row k s t keys i) ∙ spread (same_key k j) (holds_key keys k) (same_subject t s)

row_by : (tie here later : Bool) (k : Key) (keys : List Key) (o : Option (List Key)) → here ≡ holds_key keys k
    → later ≡ option_map_or (λ js. holds_key js k) o false → (tie ≡ true → o ≡ None)
    → ((tie && here) || later) ≡ option_map_or (λ js. holds_key js k) (cond tie (Some keys) o) false
row_by true true later k keys o is more none = is
row_by true false later k keys o is more none = more ∙ ap (λ p. option_map_or (λ js. holds_key js k) p false) (none refl) ∙ is
row_by false here later k keys o is more none = more

pub any_pair : (k : Key) (s : Subject) (rows : List (Subject × List Key)) → IsAscending subject_order rows
    → list_any (λ (row : (Key × Subject) × Unit {0}). same_pair row.0.0 row.0.1 k s) (reader_rows rows) ≡ is_reader rows k s
any_pair k s [] ascending = refl
any_pair k s (row ∷ rows) ascending =
    list_any-append (λ (row : (Key × Subject) × Unit {0}). same_pair row.0.0 row.0.1 k s) (rows_under row.0 row.1) (reader_rows rows)
    ∙ ap (λ b. b || list_any (λ (row : (Key × Subject) × Unit {0}). same_pair row.0.0 row.0.1 k s) (reader_rows rows)) (of_row k s row.0 row.1)
    ∙ row_by (same_subject row.0 s) (holds_key row.1 k)
    (list_any (λ (row : (Key × Subject) × Unit {0}). same_pair row.0.0 row.0.1 k s) (reader_rows rows)) k row.1
    (value_of subject_order rows s) refl
    (any_pair k s rows (sorted_tail subject_order row.0 (keys_of rows) ascending))
    (λ tie. value_of-above subject_order rows s (above_tied subject_order total_subjects row.0 s rows ((Equal-is (subject_order row.0 s)).0 tie)
    (sorted_head subject_order row.0 (keys_of rows) ascending)))
