use Rattle.std.proofs.Common.{◌≡◌, take}
use Rattle.room_laws.specs.Orders.{quotas_of}
use Rattle.call_files.proofs.script_input.quotas_of.Given as goal

abbrev pub invariant-loop-script : goal.invariant-loop-script
invariant-loop-script l = l.quotas.items ≡ quotas_of (take l.script-index l.scripts)
