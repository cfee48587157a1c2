use Rattle.std.proofs.Common.{◌≡◌, ◌≤◌, ◌-◌, take, max}
use Rattle.std.specs.Prelude.{fold, sum}
use Rattle.frame_write.specs.OutFields.{lengths_of}
use Rattle.frame_write.proofs.layout.measure.Given as goal

abbrev pub invariant-loop-field : goal.invariant-loop-field
invariant-loop-field l = record {
  longest : l.sizes.longest ≡ fold max 0 (take l.field-index (lengths_of l.fields));
  last : l.sizes.last_begins ≡ sum (take (l.field-index - 1) (lengths_of l.fields));
  total : l.sizes.total ≡ sum (take l.field-index (lengths_of l.fields));
  longest_in : l.sizes.longest ≤ l.sizes.total;
  last_in : l.sizes.last_begins ≤ l.sizes.total;
  small : l.sizes.total ≤ 99999;
}
