use Rattle.std.proofs.Common.{◌≡◌, take, true}
use Rattle.crash_disk.specs.Calls.{are_within, filled, newest_first, read_after}
use Rattle.crash_disk.proofs.mem_disk.MemDisk.image.Given as goal

-- so far the calls are gone through
abbrev pub invariant-loop-call : goal.invariant-loop-call
invariant-loop-call l = record {
  bytes : l.bytes.items ≡ read_after (newest_first (take l.call-index l.call-items));
  image : l.image.items ≡ filled l.fill (newest_first (take l.call-index l.call-items));
  within : are_within (newest_first l.call-items) ≡ true;
}
