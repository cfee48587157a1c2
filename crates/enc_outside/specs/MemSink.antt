-- What an output sink in memory shows.
use Rattle.std.specs.Prelude.{ℕ, List}
use Rattle.enc_outside.specs.declared.mem_sink.MemSink.{MemSink}

-- its bytes
abbrev pub sink_bytes : MemSink → List ℕ
sink_bytes sink = sink.bytes.items

-- how often a put failed
abbrev pub failed_puts : MemSink → ℕ
failed_puts sink = sink.faults
