-- What a text is read as: its commands, or its first fault. This project's own.
use Rattle.std.specs.Prelude.{◌≡◌, ℕ, List, Result, Ok, Err}
use Rattle.text_spec.specs.ScriptLines.{IsScript}
use Rattle.text_spec.specs.declared.command.Command.{Command}
use Rattle.script_text.specs.Faults.{IsFirstFault}
use Rattle.script_text.specs.declared.refusal.ScriptRefusal.{ScriptRefusal}
use Rattle.script_text.specs.declared.refusal.ScriptRefusal.TheVariants.{Fault, NoMemory as WantOfMemory}

-- the bytes are a script of these commands, or have this line and code as their first fault
abbrev pub IsReading : List ℕ → Result (List Command) (ℕ × ℕ) → Type 0
IsReading bytes (Ok commands) = IsScript bytes commands
IsReading bytes (Err fault) = IsFirstFault bytes fault.0 fault.1

-- that and nothing else
pub record IsOnlyReading (bytes : List ℕ) (reading : Result (List Command) (ℕ × ℕ)) : Type 0 where
  pub is : IsReading bytes reading
  pub only : (other : Result (List Command) (ℕ × ℕ)) → IsReading bytes other → other ≡ reading

-- a text is refused for its first fault
abbrev pub IsScriptRefusal : List ℕ → ScriptRefusal → Type 0
IsScriptRefusal bytes (Fault line code) = IsOnlyReading bytes (Err (line, code))
IsScriptRefusal bytes WantOfMemory = Unit {0}
