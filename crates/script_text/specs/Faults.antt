-- The first fault of a text that is no script. This project's own.
use Rattle.std.specs.Prelude.{◌≡◌, ℕ, ◌<◌, ◌≤◌, ◌+◌, false, List, [], ◌∷◌, ◌++◌, length, All}
use Rattle.std.specs.List.{flat_map, filter_map}
use Rattle.s57_types.specs.Subfield.{holds}
use Rattle.text_spec.specs.ScriptLines.{ScriptLine, line_text, spoken_command, IsLine, IsCommand, is_skipped, command_line, command_limit}
use Rattle.text_spec.specs.declared.command.Command.{Command}
use Rattle.script_text.specs.Cuts.{before}
use Rattle.script_text.specs.Guess.{first_word}
use Rattle.script_text.specs.declared.refusal.LineFault.{LineFault}
use Rattle.script_text.specs.declared.refusal.LineFault.TheVariants.{NoLineFeed, UnknownWord, WrongForm, TooManyCommands}

-- a word that a command's line begins with
abbrev pub IsCommandWord : List ℕ → Type 0
IsCommandWord word = (c : Command) × (first_word c ≡ word)

-- a line without its line feed is of a command
abbrev pub IsOf : List ℕ → Command → Type 0
IsOf line c = IsCommand c × (command_line c ≡ line ++ 10 ∷ [])

-- the first line of a text isn't passed over, and is so
pub record HasSpoken (text : List ℕ) (IsSo : List ℕ → Type 0) : Type 0 where
  pub line : List ℕ
  pub rest : List ℕ
  pub text_is : text ≡ line ++ (10 ∷ rest)
  pub free : holds 10 line ≡ false
  pub not_skipped : is_skipped line ≡ false
  pub is_so : IsSo line

-- the first line of a text has a fault, where the lines before it have so many commands: there is no line feed; the first
-- word is no command's; the line is of no command though its first word is one's; there is no room for its command
abbrev pub IsLineFault : ℕ → List ℕ → LineFault → Type 0
IsLineFault earlier text NoLineFeed = (0 < length text) × (holds 10 text ≡ false)
IsLineFault earlier text UnknownWord = HasSpoken text (λ line. IsCommandWord (before 32 line) → ⊥)
IsLineFault earlier text WrongForm = HasSpoken text (λ line. IsCommandWord (before 32 line) × ((c : Command) → IsOf line c → ⊥))
IsLineFault earlier text TooManyCommands = HasSpoken text (λ line. (c : Command) × IsOf line c × (command_limit ≤ earlier))

abbrev pub fault_code : LineFault → ℕ
fault_code NoLineFeed = 1
fault_code UnknownWord = 2
fault_code WrongForm = 3
fault_code TooManyCommands = 4

-- a text begins with these lines of a script, and this is the rest of it
pub record IsBegun (bytes : List ℕ) (lines : List ScriptLine) (rest : List ℕ) : Type 0 where
  pub each : All IsLine lines
  pub bytes_are : bytes ≡ flat_map line_text lines ++ rest
  pub few : length (filter_map spoken_command lines) ≤ command_limit

-- the first fault of a text is in the line with this number, from 1, and has this code
pub record IsFirstFault (bytes : List ℕ) (line code : ℕ) : Type 0 where
  pub lines : List ScriptLine
  pub rest : List ℕ
  pub begun : IsBegun bytes lines rest
  pub line_is : line ≡ length lines + 1
  pub fault : LineFault
  pub code_is : code ≡ fault_code fault
  pub faulty : IsLineFault (length (filter_map spoken_command lines)) rest fault
