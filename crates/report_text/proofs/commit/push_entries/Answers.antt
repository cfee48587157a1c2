use Rattle.report_text.proofs.Entries.{lines_at}
use Rattle.report_text.proofs.commit.push_entries.Goals as goal

pub push_entry-requires : goal.push_entry-requires
push_entry-requires c = lines_at c.args.entries.now c.loop-entry.entry-index c.entry-item.result c.loop-entry-test.true c.entry-item.is c.requires
