use Rattle.std.proofs.Common.{◌≡◌, count_by, take}
use Rattle.text_spec.specs.ScriptLines.{is_shared}
use Rattle.script_text.proofs.script.Script.shared.Given as goal

abbrev pub invariant-loop-command : goal.invariant-loop-command
invariant-loop-command l = l.shared ≡ count_by is_shared (take l.command-index l.self)
