-- Reading scripts line by line. This project's own.
use Rattle.std.specs.Prelude.{◌≡◌, ℕ, ◌<◌, ◌≤◌, ◌+◌, List, [], ◌∷◌, ◌++◌, length, Err}
use Rattle.std.specs.List.{filter_map}
use Rattle.text_spec.specs.ScriptLines.{ScriptLine, spoken_command, command_limit}
use Rattle.text_spec.specs.declared.command.Command.{Command}
use Rattle.script_text.specs.Cuts.{before}
use Rattle.script_text.specs.Faults.{IsOf, IsBegun, IsLineFault, IsCommandWord, fault_code}
use Rattle.script_text.specs.Reading.{IsOnlyReading}
use Rattle.script_text.specs.declared.reading.FirstRefusal.{FirstRefusal}
use Rattle.script_text.specs.declared.reading.FirstRefusal.TheVariants.{Fault as FirstFault, NoMemory as WantOfMemory}
use Rattle.script_text.specs.declared.refusal.LineFault.{LineFault}
use Rattle.script_text.specs.declared.refusal.LineFault.TheVariants.{NoLineFeed, UnknownWord, WrongForm, TooManyCommands}
use Rattle.script_text.specs.declared.refusal.LineRefusal.{LineRefusal}
use Rattle.script_text.specs.declared.refusal.LineRefusal.TheVariants.{Fault, NoMemory}

-- so many lines of a text are read up to the rest, and these are their commands
pub record IsReadTo (bytes : List ℕ) (count : ℕ) (rest : List ℕ) (commands : List Command) : Type 0 where
  pub lines : List ScriptLine
  pub begun : IsBegun bytes lines rest
  pub count_is : count ≡ length lines
  pub commands_are : commands ≡ filter_map spoken_command lines

-- one line more is read
abbrev pub IsLineRead : (text rest : List ℕ) (earlier commands : List Command) → Type 0
IsLineRead text rest earlier commands = (bytes : List ℕ) (count : ℕ) → IsReadTo bytes count text earlier → IsReadTo bytes (count + 1) rest commands

-- the first line of a text isn't read
abbrev pub IsLineRefusal : ℕ → List ℕ → LineRefusal → Type 0
IsLineRefusal earlier text (Fault fault) = IsLineFault earlier text fault
IsLineRefusal earlier text NoMemory = Unit {0}

-- a line without its line feed is of a command that there is room for
pub record IsTaken (line : List ℕ) (earlier commands : List Command) : Type 0 where
  pub taken : Command
  pub commands_are : commands ≡ earlier ++ taken ∷ []
  pub room : length earlier < command_limit
  pub is_of : IsOf line taken

-- what is wrong with a line that is of no command
abbrev pub IsFormFault : List ℕ → LineFault → Type 0
IsFormFault line NoLineFeed = ⊥
IsFormFault line UnknownWord = IsCommandWord (before 32 line) → ⊥
IsFormFault line WrongForm = IsCommandWord (before 32 line)
IsFormFault line TooManyCommands = ⊥

-- why a line that isn't passed over isn't taken
abbrev pub IsTextFault : ℕ → List ℕ → LineFault → Type 0
IsTextFault earlier line NoLineFeed = ⊥
IsTextFault earlier line UnknownWord = IsCommandWord (before 32 line) → ⊥
IsTextFault earlier line WrongForm = IsCommandWord (before 32 line) × ((c : Command) → IsOf line c → ⊥)
IsTextFault earlier line TooManyCommands = (c : Command) × IsOf line c × (command_limit ≤ earlier)

abbrev pub IsNotTaken : List ℕ → List Command → LineRefusal → Type 0
IsNotTaken line earlier (Fault fault) = IsTextFault (length earlier) line fault
IsNotTaken line earlier NoMemory = Unit {0}

-- the refusal of a line with its number
abbrev pub first_refusal : ℕ → LineRefusal → FirstRefusal
first_refusal line (Fault fault) = FirstFault line (fault_code fault)
first_refusal line NoMemory = WantOfMemory

abbrev pub IsFirstRefusal : List ℕ → FirstRefusal → Type 0
IsFirstRefusal bytes (FirstFault line code) = IsOnlyReading bytes (Err (line, code)) × (line ≤ length bytes)
IsFirstRefusal bytes WantOfMemory = Unit {0}
