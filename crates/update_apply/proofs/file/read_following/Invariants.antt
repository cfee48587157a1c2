use Rattle.std.proofs.Common.{◌≡◌, ◌≤◌, ◌+◌, ◌-◌, [], length, false}
use Rattle.file_spec.specs.FileRecords.{records_after}
use Rattle.update_spec.specs.UpdatedCell.{edits_with}
use Rattle.update_apply.proofs.file.read_following.Given as goal

abbrev pub invariant-loop-at : goal.invariant-loop-at
invariant-loop-at l = record {
  within : l.at ≤ length l.update.bytes.now;
  counted : l.number ≤ l.at + 3;
  walk : edits_with l.update.look.now l.level l.number l.earlier (records_after l.update.bytes.now l.at false)
      ≡ edits_with l.update.look.now l.level 3 [] (records_after l.update.bytes.now l.start false);
}

abbrev pub decreases-loop-at : goal.decreases-loop-at
decreases-loop-at l = length l.update.bytes.now - l.at
