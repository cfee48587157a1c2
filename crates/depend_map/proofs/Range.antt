-- The subjects of a key's pairs, from the first that isn't below it on, are the key's readers.
use Rattle.std.proofs.Common.{◌≡◌, ◌||◌, Bool, true, false, List, [], ◌∷◌, Some, cond, map, filter, drop, refl}
use Rattle.std.proofs.Common.{sym, ap, ◌∙◌, Less, is_eq, is_lt}
use Rattle.std.specs.Cmp.{Equal-is}
use Rattle.std.specs.List.{AllByRecursion}
use Rattle.std.specs.List.Sorted.{IsStrictlySortedBy}
use Rattle.std.specs.Map.{keys_of}
use Rattle.std.specs.Option.{option_map_or}
use Rattle.std.proofs.lemmas.Map.Keys.{sorted_head, sorted_tail}
use Rattle.s57_types.specs.declared.name.Kind.TheVariants.{Vi}
use Rattle.cell_spec.specs.declared.key.Key.{Key}
use Rattle.cell_spec.specs.declared.key.Subject.{Subject}
use Rattle.cell_spec.specs.declared.key.Subject.TheVariants.{Rec, Side, Pair, Ident}
use Rattle.cell_spec.specs.Names.{key_order, subject_order}
use Rattle.cell_spec.proofs.Ascending.{holds, same_when_sorted}
use Rattle.cell_spec.proofs.Orders.{total_keys}
use Rattle.cell_spec.proofs.SubjectOrder.{exact_subjects, total_subjects}
use Rattle.row_spec.specs.Rows.{IsAscending, lower_bound, value_of}
use Rattle.row_spec.proofs.Pairs.{among-from, sorted-from}
use Rattle.row_spec.proofs.Place.{above_tied, value_of-above}
use Rattle.finding_laws.specs.Tables.{readers_in}
use Rattle.finding_laws.proofs.LeastName.{none_below}
use Rattle.depend_map.specs.Readers.{AreReadersOf, holds_key, is_reader, reader_order, subjects_under}
use Rattle.depend_map.proofs.Pairs.{either_subject}

-- ---- the least subject
abbrev pub least : Subject
least = Rec (record { kind = Vi; id = 0 })

not_below : (s : Subject) → is_lt (subject_order s least) ≡ false
not_below (Rec n) = none_below n
not_below (Side n) = refl
not_below (Pair a b) = refl
not_below (Ident l) = refl

-- ---- the rows whose keys hold a key
module _ (k : Key) where
  each_by : (P : Subject → Type 0) (row : Subject × List Key) (rows : List (Subject × List Key)) (b : Bool) → P row.0 → AllByRecursion P (readers_in rows k)
      → AllByRecursion P (map (λ (r : Subject × List Key). r.0)
      (cond b (row ∷ filter (λ (r : Subject × List Key). holds_key r.1 k) rows) (filter (λ (r : Subject × List Key). holds_key r.1 k) rows)))
  each_by P row rows true here more = (here, more)
  each_by P row rows false here more = more

  each_reader : (P : Subject → Type 0) (rows : List (Subject × List Key)) → AllByRecursion P (keys_of rows) → AllByRecursion P (readers_in rows k)
  each_reader P [] all = tt
  each_reader P (row ∷ rows) all = each_by P row rows (holds_key row.1 k) all.0 (each_reader P rows all.1)

  reader_by : (row : Subject × List Key) (rows : List (Subject × List Key)) (b : Bool)
      → AllByRecursion (λ s. subject_order row.0 s ≡ Less) (readers_in rows k) → IsStrictlySortedBy subject_order (readers_in rows k)
      → IsStrictlySortedBy subject_order
      (map (λ (r : Subject × List Key). r.0)
      (cond b (row ∷ filter (λ (r : Subject × List Key). holds_key r.1 k) rows) (filter (λ (r : Subject × List Key). holds_key r.1 k) rows)))
  unfolding IsStrictlySortedBy
  reader_by row rows true here more = (here, more)
  reader_by row rows false here more = more

  sorted-readers : (rows : List (Subject × List Key)) → IsAscending subject_order rows → IsStrictlySortedBy subject_order (readers_in rows k)
  unfolding IsStrictlySortedBy
  sorted-readers [] ascending = tt
  sorted-readers (row ∷ rows) ascending =
      reader_by row rows (holds_key row.1 k) (each_reader (λ s. subject_order row.0 s ≡ Less) rows (sorted_head subject_order row.0 (keys_of rows) ascending))
      (sorted-readers rows (sorted_tail subject_order row.0 (keys_of rows) ascending))

  -- a row whose keys hold it or not, of the subject or of another
  one_by : (q : Subject) (row : Subject × List Key) (rows : List (Subject × List Key)) (hit tie : Bool) → holds_key row.1 k ≡ hit
      → is_eq (subject_order q row.0) ≡ tie
      → holds subject_order q (readers_in rows k) ≡ is_reader rows k q → (tie ≡ true → is_reader rows k q ≡ false)
      → holds subject_order q
      (map (λ (r : Subject × List Key). r.0)
      (cond hit (row ∷ filter (λ (r : Subject × List Key). holds_key r.1 k) rows) (filter (λ (r : Subject × List Key). holds_key r.1 k) rows)))
      ≡ option_map_or (λ keys. holds_key keys k) (cond tie (Some row.1) (value_of subject_order rows q)) false
  one_by q row rows true true hit tie more none = ap (λ b. b || holds subject_order q (readers_in rows k)) tie ∙ sym hit
  one_by q row rows true false hit tie more none = ap (λ b. b || holds subject_order q (readers_in rows k)) tie ∙ more
  one_by q row rows false true hit tie more none = more ∙ none refl ∙ sym hit
  one_by q row rows false false hit tie more none = more

  holds-readers : (q : Subject) (rows : List (Subject × List Key)) → IsAscending subject_order rows
      → holds subject_order q (readers_in rows k) ≡ is_reader rows k q
  holds-readers q [] ascending = refl
  holds-readers q (row ∷ rows) ascending =
      one_by q row rows (holds_key row.1 k) (is_eq (subject_order q row.0)) refl refl
      (holds-readers q rows (sorted_tail subject_order row.0 (keys_of rows) ascending))
      (λ tie. ap (λ o. option_map_or (λ keys. holds_key keys k) o false)
      (value_of-above subject_order rows q (above_tied subject_order total_subjects row.0 q rows
      ((Equal-is (subject_order row.0 q)).0 (either_subject row.0 q ∙ tie)) (sorted_head subject_order row.0 (keys_of rows) ascending))))
      ∙ ap (λ b. option_map_or (λ keys. holds_key keys k) (cond b (Some row.1) (value_of subject_order rows q)) false) (either_subject q row.0)

-- the subjects from the first pair of a key on are its readers
pub range_is_readers : {V : Type 0} (rows : List (Subject × List Key)) (pairs : List ((Key × Subject) × V)) (k : Key) → IsAscending subject_order rows
    → IsAscending reader_order pairs
    → AreReadersOf rows pairs → subjects_under k (drop (lower_bound reader_order pairs (k, least)) pairs) ≡ readers_in rows k
range_is_readers rows pairs k ascending in_order readers =
    same_when_sorted subject_order total_subjects exact_subjects (subjects_under k (drop (lower_bound reader_order pairs (k, least)) pairs)) (readers_in rows k)
    (sorted-from key_order subject_order total_keys total_subjects k least not_below pairs in_order) (sorted-readers k rows ascending)
    (λ q. among-from key_order subject_order total_keys total_subjects k least not_below q pairs in_order ∙ readers.exact k q
    ∙ sym (holds-readers k q rows ascending))
