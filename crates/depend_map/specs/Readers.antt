-- Pairs of a key and a subject that reads it, in ascending order. This project's own rules.
use Rattle.std.specs.Prelude.{◌≡◌, ◌&&◌, Bool, false, not, List, flat_map, map}
use Rattle.std.specs.List.{list_any, take_while}
use Rattle.std.specs.Option.{is_some, option_map_or}
use Rattle.std.specs.declared.cmp.Ordering.{Ordering}
use Rattle.std.specs.Ordering.{ordering_then}
use Rattle.cell_spec.specs.declared.key.Key.{Key}
use Rattle.cell_spec.specs.declared.key.Subject.{Subject}
use Rattle.cell_spec.specs.Names.{key_order, same_key, same_subject, subject_order}
use Rattle.row_spec.specs.Rows.{value_of}

-- by key, then by subject: those that read one key stand together, ascending
abbrev pub reader_order : Key × Subject → Key × Subject → Ordering
reader_order a b = ordering_then (key_order a.0 b.0) (subject_order a.1 b.1)

-- whether a key stands among some
abbrev pub holds_key : List Key → Key → Bool
holds_key keys k = list_any (same_key k) keys

-- whether a key is among the old ones and not among the new ones
abbrev pub is_lost : List Key → List Key → Key → Bool
is_lost old new k = holds_key old k && not (holds_key new k)

-- whether the keys kept for a subject hold a key
abbrev pub is_reader : List (Subject × List Key) → Key → Subject → Bool
is_reader rows k s = option_map_or (λ keys. holds_key keys k) (value_of subject_order rows s) false

-- whether two pairs are one
abbrev pub same_pair : Key → Subject → Key → Subject → Bool
same_pair j t k s = same_key j k && same_subject t s

-- keys with a subject as rows, which have no values
abbrev pub rows_under : Subject → List Key → List ((Key × Subject) × Unit {0})
rows_under s keys = map (λ k. ((k, s), tt)) keys

-- each key of each row with the row's subject
abbrev pub reader_rows : List (Subject × List Key) → List ((Key × Subject) × Unit {0})
reader_rows rows = flat_map (λ (row : Subject × List Key). rows_under row.0 row.1) rows

module _ {V : Type 0} where
  -- whether a key stands among the pairs with a subject
  abbrev pub has_pair : List ((Key × Subject) × V) → Key → Subject → Bool
  has_pair pairs k s = is_some (value_of reader_order pairs (k, s))

  -- the subjects of the first pairs, as far as these have the key
  abbrev pub subjects_under : Key → List ((Key × Subject) × V) → List Subject
  subjects_under k pairs =
      map (λ (pair : (Key × Subject) × V). pair.0.1) (take_while (λ (pair : (Key × Subject) × V). same_key pair.0.0 k) pairs)

  -- a key stands with a subject exactly where the keys kept for the subject hold it
  pub record AreReadersOf (rows : List (Subject × List Key)) (pairs : List ((Key × Subject) × V)) : Type 0 where
    pub exact : (k : Key) (s : Subject) → has_pair pairs k s ≡ is_reader rows k s
