use Rattle.std.proofs.Common.{◌≡◌, ◌++◌, take, map, decimal}
use Rattle.history_spec.specs.Entries.{order_of_entries}
use Rattle.text_spec.specs.Lines.{spaced_words}
use Rattle.report_text.proofs.order.push_desks.Given as goal

abbrev pub invariant-loop-entry : goal.invariant-loop-entry
invariant-loop-entry l = l.out.items ≡ l.initial.out.items ++ spaced_words (map decimal (order_of_entries (take l.entry-index l.entries)))
