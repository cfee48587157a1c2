use Rattle.std.proofs.Common.{◌≡◌, length, take, ◌-◌, ◌≤◌}
use Rattle.enc_outside.specs.Files.{Told, StaysUntold}
use Rattle.whole_files.specs.Output.{Adds}
use Rattle.whole_files.proofs.put.put_all.Given as goal

abbrev pub invariant-loop-done : goal.invariant-loop-done
invariant-loop-done g l = record {
  in_range : l.done ≤ length l.text;
  told : Told (Adds (take l.done l.text)) (g.O.Sink.written l.initial.out) (g.O.Sink.written l.out);
  untold : StaysUntold (g.O.Sink.written l.initial.out) (g.O.Sink.written l.out);
  faults : g.O.Sink.faults l.out ≡ g.O.Sink.faults l.initial.out;
}

abbrev pub decreases-loop-done : goal.decreases-loop-done
decreases-loop-done g l = length l.text - l.done
