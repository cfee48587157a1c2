use Rattle.std.proofs.Common.{◌≡◌, All, length, map, string_bytes, IfSome}
use Rattle.export_laws.specs.ExportedCells.{IsScriptOfText}
use Rattle.sessions.specs.Replays.{IsShortScript}
use Rattle.call_files.specs.Inputs.{AreScripts}
use Rattle.call_files.proofs.script_input.scripts_in_files.Given as goal

abbrev pub invariant-loop-k : goal.invariant-loop-k
invariant-loop-k g l = record {
  many : length l.scripts.items ≡ l.k;
  good : IfSome (g.H.Shelf.files l.initial.shelf) (λ fs. AreScripts (map string_bytes l.names) fs l.scripts.items);
  short : All IsShortScript l.scripts.items;
  of_texts : All IsScriptOfText l.scripts.items;
  files : g.H.Shelf.files l.shelf ≡ g.H.Shelf.files l.initial.shelf;
  read_faults : g.H.Shelf.read_faults l.shelf ≡ g.H.Shelf.read_faults l.initial.shelf;
  write_faults : g.H.Shelf.write_faults l.shelf ≡ g.H.Shelf.write_faults l.initial.shelf;
}
