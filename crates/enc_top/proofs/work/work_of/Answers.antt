use Rattle.std.proofs.Common.{◌++◌, Some, sym, ap, ◌∙◌}
use Rattle.file_spec.specs.EncodedCell.{encoded_cell}
use Rattle.history_spec.specs.Entries.{order_of_entries}
use Rattle.history_spec.specs.EntriesReport.{entries_report}
use Rattle.enc_top.proofs.work.work_of.Goals as goal

pub returns : goal.returns
returns c = λ scripts entries lines.
    let book = c.args.book in
    let order = order_of_entries book.entries in
    let text = c.in_ok-print_report.ensures.ok
    ∙ (λ i. c.new-text.ensures.items i ++ entries_report book.opening book.entries (c.deref.ensures.value i))
    ∙ sym (c.a_history_has_the_report_of_its_order.ensures.report book.opening scripts book.entries c.args.transcripts.items entries lines) in
    let cell = c.into_bench.ensures ∙ sym (c.a_history_has_the_report_of_its_order.ensures.cell book.opening scripts book.entries entries) in
    (λ i. record { text = text i; file = Some ((c.in_ok-export.ensures.file ∙ ap (λ d. (c.args.out.now, encoded_cell d)) cell) i) })
