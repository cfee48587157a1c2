-- What an output sink in memory that never fails shows.
use Rattle.std.specs.Prelude.{ℕ, List, Option, None, Some, if◌then◌else◌}
use Rattle.enc_outside.specs.declared.sure_sink.SureSink.{SureSink}

-- its bytes
abbrev pub held_bytes : SureSink → List ℕ
held_bytes sink = sink.bytes.items

-- they are told until memory was refused
abbrev pub told_bytes : SureSink → Option (List ℕ)
told_bytes sink = if sink.told then Some (held_bytes sink) else None
