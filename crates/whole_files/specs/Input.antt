-- Reading a file whole. This project's own.
use Rattle.std.specs.Prelude.{◌≡◌, ℕ, ◌<◌, List, [], length, take, Option, None, IsSomeAnd, MatchOption}
use Rattle.enc_outside.specs.Count.{Rose}
use Rattle.whole_files.specs.declared.input.InputRefusal.{InputRefusal}
use Rattle.whole_files.specs.declared.input.InputRefusal.TheVariants.{Absent, ReadFault, TooLarge, NoMemory}

-- the bytes are the first of the file, and none where there is no file
abbrev pub IsFrontOf : List ℕ → Option (List ℕ) → Type 0
IsFrontOf bytes file = MatchOption file (bytes ≡ []) (λ content. take (length bytes) content ≡ bytes)

-- why a file within a limit was not read: what the file is, and how often reads had failed before and after
abbrev pub IsInputCause : ℕ → Option (List ℕ) → ℕ → ℕ → InputRefusal → Type 0
IsInputCause limit file before after Absent = file ≡ None
IsInputCause limit file before after ReadFault = Rose before after
IsInputCause limit file before after TooLarge = IsSomeAnd file (λ content. limit < length content)
IsInputCause limit file before after NoMemory = Unit {0}

-- the count of failed reads rose where that is why the file was not read, and stayed with every other refusal
abbrev pub CountsReads : ℕ → ℕ → InputRefusal → Type 0
CountsReads before after ReadFault = Rose before after
CountsReads before after Absent = after ≡ before
CountsReads before after TooLarge = after ≡ before
CountsReads before after NoMemory = after ≡ before
