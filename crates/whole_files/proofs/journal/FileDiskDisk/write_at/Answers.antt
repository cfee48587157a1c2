use Rattle.std.proofs.Common.{ℕ, List, length, refl, arith}
use Rattle.crash_disk.specs.Disk.{Torn}
use Rattle.whole_files.proofs.journal.FileDiskDisk.write_at.Goals as goal

as_before : (at n : ℕ) (bytes : List ℕ) → Torn at n bytes bytes
as_before at n bytes = record { before = refl; after = refl; no_shorter = omega arith; no_longer = omega arith }

-- no image is told apart from another, so each is one from before
pub returns-in-Ok-clause-crash : goal.returns-in-Ok-clause-crash
returns-in-Ok-clause-crash g c = λ image is. (image, is, as_before c.args.at (length c.args.bytes.now) image)

pub returns-in-Err-clause-crash : goal.returns-in-Err-clause-crash
returns-in-Err-clause-crash g c = λ image is. (image, is, as_before c.args.at (length c.args.bytes.now) image)
