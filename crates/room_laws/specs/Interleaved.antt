-- Sessions whose entries stand in one history.
use Rattle.std.specs.Prelude.{◌≡◌, ℕ, List, map}
use Rattle.s57_types.specs.declared.cell.Cell.{Cell}
use Rattle.text_spec.specs.declared.command.Command.{Command}
use Rattle.history_spec.specs.declared.entry.Entry.{Entry}
use Rattle.history_spec.specs.declared.reply.Brief.{Brief}
use Rattle.history_spec.specs.declared.reply.Reply.{Reply}
use Rattle.history_spec.specs.Entries.{order_of_entries, replayed, brief_of}
use Rattle.history_spec.specs.Sessions.{ordered_requests, replies_from, history_after}
use Rattle.history_spec.specs.Steps.{opening}

abbrev pub told_brief : ℕ × Reply → ℕ × Brief
told_brief (desk, reply) = (desk, brief_of reply)

abbrev pub entered_brief : Entry → ℕ × Brief
entered_brief e = (e.desk, e.brief)

-- then the run in their order has their answers and leaves their state
pub record IsRunOfEntries (c : Cell) (scripts : List (List Command)) (entries : List Entry) : Type 0 where
  pub state : history_after (opening c) (ordered_requests scripts (order_of_entries entries)) ≡ replayed c entries
  pub replies : map told_brief (replies_from (opening c) (ordered_requests scripts (order_of_entries entries))) ≡ map entered_brief entries
