-- The form of the words of a session over a journal.
use Rattle.std.specs.Prelude.{ℕ, List, [], ◌∷◌, Option, None, Some, codes, if◌then◌else◌}
use Rattle.call_files.specs.Words.{is_word}

-- the names of the files: of the cell, of the cell that is left, and of the script. The file of the journal is behind the disk
pub record KeepForm : Type 0 where
  pub cell : List ℕ
  pub out : List ℕ
  pub script : List ℕ

abbrev pub keep_form : (cell out script : List ℕ) → KeepForm
keep_form cell out script = record { cell = cell; out = out; script = script }

-- the words are `keep CELL OUT JOURNAL S`
abbrev pub form_of : List (List ℕ) → Option KeepForm
form_of (first ∷ cell ∷ out ∷ journal ∷ script ∷ []) =
    if is_word (codes "keep") first then Some (keep_form cell out script) else None
form_of other = None
