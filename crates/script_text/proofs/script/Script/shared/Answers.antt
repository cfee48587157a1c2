use Rattle.std.proofs.Common.{◌≤◌, take, length, ap, arith}
use Rattle.std.proofs.lemmas.List.{length-take-le}
use Rattle.std.proofs.lemmas.List.Sums.{count_by-le-length}
use Rattle.text_spec.specs.ScriptLines.{is_shared}
use Rattle.script_text.proofs.script.Script.shared.Goals as goal

pub overflow_add-shared : goal.overflow_add-shared
overflow_add-shared c =
    let commands = c.args.self.now in
    let i = c.loop-command.command-index in
    let within : i ≤ length commands = omega (arith, ap length c.as_slice-command-items.ensures.value, ap length c.self.view_is) in
    omega (
      arith,
      c.loop-command.invariant,
      count_by-le-length is_shared (take i commands),
      length-take-le i commands within,
      within,
      c.loop-command-test.true,
      ap length c.as_slice-command-items.ensures.value,
      ap length c.self.view_is,
      c.self.invariant,
    )
