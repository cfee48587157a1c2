use Rattle.std.proofs.Common.{length, take, ◌-◌, ◌≤◌, ◌≡◌}
use Rattle.enc_outside.specs.Files.{Told, StaysUntold, Writes}
use Rattle.call_files.proofs.output.append_all.Given as goal

abbrev pub invariant-loop-done : goal.invariant-loop-done
invariant-loop-done g l = record {
  in_range : l.done ≤ length l.bytes;
  told : Told (Writes l.name (take l.done l.bytes)) (g.H.Shelf.files l.initial.shelf) (g.H.Shelf.files l.shelf);
  untold : StaysUntold (g.H.Shelf.files l.initial.shelf) (g.H.Shelf.files l.shelf);
  write_faults : g.H.Shelf.write_faults l.shelf ≡ g.H.Shelf.write_faults l.initial.shelf;
  read_faults : g.H.Shelf.read_faults l.shelf ≡ g.H.Shelf.read_faults l.initial.shelf;
}

abbrev pub decreases-loop-done : goal.decreases-loop-done
decreases-loop-done g l = length l.bytes - l.done
