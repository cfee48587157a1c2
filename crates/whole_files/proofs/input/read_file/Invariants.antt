use Rattle.std.proofs.Common.{◌≡◌, ◌-◌, ◌+◌, length, vec_len, IfSome}
use Rattle.whole_files.specs.Input.{IsFrontOf}
use Rattle.whole_files.proofs.input.read_file.Given as goal

abbrev pub invariant-loop-chunk : goal.invariant-loop-chunk
invariant-loop-chunk g l = record {
  front : IfSome (g.H.Shelf.files l.initial.shelf) (λ files. IsFrontOf l.bytes.items (files l.name));
  files : g.H.Shelf.files l.shelf ≡ g.H.Shelf.files l.initial.shelf;
  read_faults : g.H.Shelf.read_faults l.shelf ≡ g.H.Shelf.read_faults l.initial.shelf;
  write_faults : g.H.Shelf.write_faults l.shelf ≡ g.H.Shelf.write_faults l.initial.shelf;
  chunk : length l.chunk ≡ 65536;
}

abbrev pub decreases-loop-chunk : goal.decreases-loop-chunk
decreases-loop-chunk g l = l.limit + 1 - vec_len l.bytes
