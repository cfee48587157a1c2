-- What each fault means.
use Rattle.std.specs.Prelude.{ℕ, Bool, List}
use Rattle.frame_spec.specs.RecordFrame.{IsShort, IsBadLeader, IsBadDirectory}
use Rattle.frame_spec.specs.declared.fault.FrameFault.{FrameFault}
use Rattle.frame_spec.specs.declared.fault.FrameFault.TheVariants.{Short, BadLeader, BadDirectory}

abbrev pub HasFrameFault : List ℕ → ℕ → Bool → FrameFault → Type 0
HasFrameFault b p first Short = IsShort b p first
HasFrameFault b p first BadLeader = IsBadLeader b p first
HasFrameFault b p first BadDirectory = IsBadDirectory b p first
