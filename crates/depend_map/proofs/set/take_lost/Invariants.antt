use Rattle.std.proofs.Common.{◌≡◌, ◌&&◌, not, take}
use Rattle.cell_spec.specs.declared.key.Key.{Key}
use Rattle.cell_spec.specs.declared.key.Subject.{Subject}
use Rattle.cell_spec.specs.Names.{same_subject}
use Rattle.depend_map.specs.Readers.{has_pair, is_lost}
use Rattle.depend_map.proofs.set.take_lost.Given as goal

-- of the old keys so far the lost ones are gone
abbrev pub invariant-loop-key : goal.invariant-loop-key
invariant-loop-key l = (k : Key) (s : Subject) →
    has_pair l.readers k s ≡ (not (same_subject l.subject s && is_lost (take l.key-index l.old) l.new k) && has_pair l.fn.readers k s)
