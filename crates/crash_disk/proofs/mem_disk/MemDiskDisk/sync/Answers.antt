use Rattle.std.proofs.Common.{List, ℕ, sym, subst}
use Rattle.crash_disk.specs.Calls.{IsImage}
use Rattle.crash_disk.specs.MemDisk.{mem_calls, read_is_image}
use Rattle.crash_disk.specs.declared.mem_disk.Call.{Call}
use Rattle.crash_disk.proofs.mem_disk.MemDiskDisk.sync.Goals as goal

-- what is synced was an image before
pub returns-in-Ok-clause-crash : goal.returns-in-Ok-clause-crash
returns-in-Ok-clause-crash c image left =
    let calls = mem_calls c.args.self.now in
    let is = subst (λ (l : List Call). IsImage l image) c.in-Ok.ensures.ok left in
    subst (λ (l : List ℕ). IsImage calls l) (sym is) (read_is_image calls c.args.self.now.kept.within)
