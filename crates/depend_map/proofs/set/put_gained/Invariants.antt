use Rattle.std.proofs.Common.{◌≡◌, ◌&&◌, ◌||◌, take}
use Rattle.cell_spec.specs.declared.key.Key.{Key}
use Rattle.cell_spec.specs.declared.key.Subject.{Subject}
use Rattle.cell_spec.specs.Names.{same_subject}
use Rattle.depend_map.specs.Readers.{has_pair, holds_key}
use Rattle.depend_map.proofs.set.put_gained.Given as goal

abbrev pub invariant-loop-key : goal.invariant-loop-key
invariant-loop-key l = (k : Key) (s : Subject)
    → has_pair l.readers k s ≡ ((same_subject l.subject s && holds_key (take l.key-index l.new) k) || has_pair l.fn.readers k s)
