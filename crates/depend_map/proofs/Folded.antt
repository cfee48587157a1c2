-- Changes one after the other: the rows ascend, and each subject has what the last change of it says.
use Rattle.std.proofs.Common.{◌≡◌, ◌&&◌, Bool, true, false, List, [], ◌∷◌, Option, None, Some, cond, refl, ap, ◌∙◌}
use Rattle.std.specs.Option.{option_map_or}
use Rattle.cell_spec.specs.declared.key.Key.{Key}
use Rattle.cell_spec.specs.declared.key.Subject.{Subject}
use Rattle.cell_spec.specs.Names.{same_subject, subject_order}
use Rattle.cell_spec.proofs.SubjectOrder.{total_subjects}
use Rattle.rule_spec.specs.Affected.{is_single}
use Rattle.row_spec.specs.Rows.{IsAscending, value_of, with_row, without_key}
use Rattle.row_spec.proofs.Ascending.{IsAscending-with_row, IsAscending-without_key}
use Rattle.row_spec.proofs.Changes.{value_of-with_row, value_of-without_key}
use Rattle.depend_map.specs.declared.change.ReadChange.{ReadChange}
use Rattle.depend_map.specs.Changes.{after_change, after_changes, is_change_of, reads_after}

module _ (rows : List (Subject × List Key)) (subject : Subject) (ascending : IsAscending subject_order rows) where
  -- the rows with other reads of the subject, or without it
  abbrev changed : Option (List Key) → List (Subject × List Key)
  changed reads = option_map_or (λ keys. with_row subject_order rows subject keys) reads (without_key subject_order rows subject)

  changed_ascends : (reads : Option (List Key)) → IsAscending subject_order (changed reads)
  changed_ascends None = IsAscending-without_key subject_order rows subject ascending
  changed_ascends (Some keys) = IsAscending-with_row subject_order total_subjects rows subject keys ascending

  ascends_by : (reads : Option (List Key)) (single : Bool) → IsAscending subject_order (cond single (changed reads) rows)
  ascends_by reads true = changed_ascends reads
  ascends_by reads false = ascending

  value_changed : (s : Subject) (reads : Option (List Key))
      → value_of subject_order (changed reads) s ≡ cond (same_subject subject s) reads (value_of subject_order rows s)
  value_changed s None = value_of-without_key subject_order total_subjects rows subject s ascending
  value_changed s (Some keys) = value_of-with_row subject_order total_subjects rows subject s keys

  value_by : (s : Subject) (reads : Option (List Key)) (single : Bool)
      → value_of subject_order (cond single (changed reads) rows) s ≡ cond (single && same_subject subject s) reads (value_of subject_order rows s)
  value_by s reads true = value_changed s reads
  value_by s reads false = refl

-- one change
one_ascends : (rows : List (Subject × List Key)) (change : ReadChange) → IsAscending subject_order rows → IsAscending subject_order (after_change rows change)
one_ascends rows change ascending = ascends_by rows change.subject ascending change.reads (is_single change.subject)

one_sets : (rows : List (Subject × List Key)) (change : ReadChange) (s : Subject) → IsAscending subject_order rows
    → value_of subject_order (after_change rows change) s ≡ cond (is_change_of s change) change.reads (value_of subject_order rows s)
one_sets rows change s ascending = value_by rows change.subject ascending s change.reads (is_single change.subject)

-- all changes
pub all_ascend : (rows : List (Subject × List Key)) (changes : List ReadChange) → IsAscending subject_order rows
    → IsAscending subject_order (after_changes rows changes)
all_ascend rows [] ascending = ascending
all_ascend rows (change ∷ changes) ascending = all_ascend (after_change rows change) changes (one_ascends rows change ascending)

pub all_set : (rows : List (Subject × List Key)) (changes : List ReadChange) (s : Subject) → IsAscending subject_order rows
    → value_of subject_order (after_changes rows changes) s ≡ reads_after (value_of subject_order rows s) changes s
all_set rows [] s ascending = refl
all_set rows (change ∷ changes) s ascending =
    all_set (after_change rows change) changes s (one_ascends rows change ascending)
    ∙ ap (λ had. reads_after had changes s) (one_sets rows change s ascending)
