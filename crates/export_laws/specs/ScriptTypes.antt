-- What is read of a script fits its types, at each level of national attributes. This project's own rules.
use Rattle.std.specs.Prelude.{ℕ, List}
use Rattle.std.specs.List.{AllByRecursion}
use Rattle.text_spec.specs.declared.command.Command.{Command}
use Rattle.text_spec.specs.ScriptLines.{IsScript}
use Rattle.edit_laws.specs.ReadBackAfterRuns.{CommandHasItsTypes}

-- the commands of a script leave records whose numbers fit their types
abbrev pub ScriptHasItsTypes : Type 0
ScriptHasItsTypes = (nall : ℕ) (bytes : List ℕ) (commands : List Command) → IsScript bytes commands → AllByRecursion (CommandHasItsTypes nall) commands
