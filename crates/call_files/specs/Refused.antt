-- The status of a refused input.
use Rattle.std.specs.Prelude.{◌≡◌, ◌⊎◌, ℕ, List}
use Rattle.report_text.specs.declared.status.Status.{Status}
use Rattle.report_text.specs.declared.status.Status.TheVariants as status
use Rattle.whole_files.specs.declared.input.InputRefusal.{InputRefusal}
use Rattle.whole_files.specs.declared.input.InputRefusal.TheVariants as input

abbrev pub status_of : List ℕ → InputRefusal → Status
status_of name input.Absent = status.Absent name
status_of name input.ReadFault = status.ReadFault name
status_of name input.TooLarge = status.TooLarge name
status_of name input.NoMemory = status.NoMemory

-- it is that status, unless memory ran out
abbrev pub IsRefusal : List ℕ → InputRefusal → Status → Type 0
IsRefusal name refusal result = (result ≡ status_of name refusal) ⊎ (result ≡ status.NoMemory)
