use Rattle.std.proofs.Common.{List, ℕ, refl, ap, ◌∙◌}
use Rattle.crash_disk.specs.Disk.{overlaid}
use Rattle.crash_disk.proofs.mem_disk.MemDisk.write.Goals as goal

pub returns-clause-ok : goal.returns-clause-ok
returns-clause-ok c = record {
  bytes_are = c.in_ok-next.ensures ∙ ap (λ (l : List ℕ). overlaid c.args.at c.args.bytes.now l) c.deref.ensures.value;
  written = c.in_ok-written.written;
  written_are = c.in_ok-written.ensures.items;
  calls = c.in_ok-keep.ensures.ok;
  faults = refl;
}
