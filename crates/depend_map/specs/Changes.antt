-- What changes leave of the read sets that are kept. This project's own rules.
use Rattle.std.specs.Prelude.{◌≡◌, ◌&&◌, Bool, List, Option, filter, fold, if◌then◌else◌}
use Rattle.std.specs.Option.{option_map_or}
use Rattle.cell_spec.specs.declared.key.Key.{Key}
use Rattle.cell_spec.specs.declared.key.Subject.{Subject}
use Rattle.cell_spec.specs.Names.{same_subject, subject_order}
use Rattle.rule_spec.specs.Affected.{is_single}
use Rattle.row_spec.specs.Rows.{IsAscending, value_of, with_row, without_key}
use Rattle.depend_map.specs.declared.change.ReadChange.{ReadChange}

-- a subject gets new reads, or goes with those that it has
abbrev pub with_reads : List (Subject × List Key) → ReadChange → List (Subject × List Key)
with_reads rows change =
    option_map_or (λ keys. with_row subject_order rows change.subject keys) change.reads (without_key subject_order rows change.subject)

-- the rows after a change: pairs aren't kept, so that one of a pair changes nothing
abbrev pub after_change : List (Subject × List Key) → ReadChange → List (Subject × List Key)
after_change rows change = if is_single change.subject then with_reads rows change else rows

-- the rows after changes, one after the other
abbrev pub after_changes : List (Subject × List Key) → List ReadChange → List (Subject × List Key)
after_changes rows changes = fold after_change rows changes

-- the rows that are kept of some: those of pairs aren't
abbrev pub kept_of : List (Subject × List Key) → List (Subject × List Key)
kept_of rows = filter (λ (row : Subject × List Key). is_single row.0) rows

-- ---- what changes leave at each subject
-- whether a change is of a subject that is kept, and of this one
abbrev pub is_change_of : Subject → ReadChange → Bool
is_change_of s change = is_single change.subject && same_subject change.subject s

-- what a subject has after changes: the reads of the last change of it, and what it had where none is of it
abbrev pub reads_after : Option (List Key) → List ReadChange → Subject → Option (List Key)
reads_after had changes s = fold (λ has change. if is_change_of s change then change.reads else has) had changes

-- rows that ascend do so after changes, and each subject has what the changes of it say
pub record ChangesSetTheirSubjects : Type 0 where
  pub ascending : (rows : List (Subject × List Key)) (changes : List ReadChange) → IsAscending subject_order rows
      → IsAscending subject_order (after_changes rows changes)
  pub reads : (rows : List (Subject × List Key)) (changes : List ReadChange) (s : Subject) → IsAscending subject_order rows
      → value_of subject_order (after_changes rows changes) s ≡ reads_after (value_of subject_order rows s) changes s
