-- The order of entries is an order of the scripts.
use Rattle.std.specs.Prelude.{ℕ, List, map, count_by}
use Rattle.text_spec.specs.declared.command.Command.{Command}
use Rattle.text_spec.specs.ScriptLines.{is_shared}

-- how many views and commits each session has
abbrev pub quotas_of : List (List Command) → List ℕ
quotas_of = map (count_by is_shared)
