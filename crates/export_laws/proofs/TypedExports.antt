-- A run of scripts on the cell of a file is read back, since both fit their types.
use Rattle.std.proofs.Common.{ℕ, List}
use Rattle.std.specs.Prelude.{All}
use Rattle.std.specs.List.{AllByRecursion}
use Rattle.std.proofs.lemmas.List.Elements.{recursion_from_All}
use Rattle.text_spec.specs.declared.command.Command.{Command}
use Rattle.decode_laws.specs.DecodedCells.{DecodedIsWritable}
use Rattle.edit_laws.specs.ReadBackAfterRuns.{CommandHasItsTypes, RunsAreReadBack}
use Rattle.cell_spec.proofs.EachItem.{each_weaker}
use Rattle.export_laws.specs.DecodedTypes.{DecodedHasItsTypes}
use Rattle.export_laws.specs.ExportedCells.{IsScriptOfText, ExportsAreReadBack}
use Rattle.export_laws.specs.ScriptTypes.{ScriptHasItsTypes}

scripts_typed : (nall : ℕ) (Of : List Command → Type 0) → ((commands : List Command) → Of commands → AllByRecursion (CommandHasItsTypes nall) commands)
    → (scripts : List (List Command)) → All Of scripts → AllByRecursion (AllByRecursion (CommandHasItsTypes nall)) scripts
scripts_typed nall Of typed scripts all = each_weaker Of (AllByRecursion (CommandHasItsTypes nall)) typed scripts (recursion_from_All Of scripts all)

pub exports_are_read_back : DecodedIsWritable → DecodedHasItsTypes → ScriptHasItsTypes → RunsAreReadBack → ExportsAreReadBack
exports_are_read_back writable typed of_script back b c scripts order bytes is all =
    back c scripts order (writable b c is) (typed b c bytes is)
    (scripts_typed c.head.nall IsScriptOfText (λ commands some. of_script c.head.nall some.0 commands some.1) scripts all)
