use Rattle.std.proofs.Common.{◌≡◌, ◌++◌, take}
use Rattle.std.specs.List.{enumerate_from, flat_map}
use Rattle.history_spec.specs.EntriesReport.{session_part}
use Rattle.report_text.proofs.report.push_sessions.Given as goal

abbrev pub invariant-loop-k : goal.invariant-loop-k
invariant-loop-k l = l.out.items ≡ l.initial.out.items ++ flat_map session_part (enumerate_from 1 (take l.k l.transcripts))
