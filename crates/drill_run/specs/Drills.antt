-- A drill: the generated scripts are run on the generated cell, the sessions in turn. This project's own.
use Rattle.std.specs.Prelude.{◌≡◌, ℕ, ◌≤◌, Bool, true, false, List, length, count_by}
use Rattle.s57_types.specs.declared.cell.Cell.{Cell}
use Rattle.rule_spec.specs.Findings.{finding_total}
use Rattle.text_spec.specs.OrderLine.{IsOrder}
use Rattle.text_spec.specs.declared.command.Command.{Command}
use Rattle.history_spec.specs.declared.entry.Entry.{Entry}
use Rattle.history_spec.specs.declared.reply.Brief.{Brief}
use Rattle.history_spec.specs.declared.reply.Brief.TheVariants.{Viewed, Formed, Newer, Refused, Accepted}
use Rattle.history_spec.specs.declared.reply.Reply.{Reply}
use Rattle.history_spec.specs.Entries.{brief_of}
use Rattle.history_spec.specs.Sessions.{history_after, ordered_requests, replies_from}
use Rattle.history_spec.specs.Steps.{finding_limit, opening}
use Rattle.room_laws.specs.Orders.{quotas_of}
use Rattle.cell_make.specs.GeneratedCell.{generated_cell}
use Rattle.cell_make.specs.GeneratedScripts.{generated_scripts}
use Rattle.drill_run.specs.RoundRobin.{round_robin}
use Rattle.drill_run.specs.declared.counts.Drilled.{Drilled}

-- an answer that refuses a commit
abbrev pub is_refusal : Brief → Bool
is_refusal (Viewed number findings) = false
is_refusal (Formed fault) = true
is_refusal (Newer number name desk) = true
is_refusal (Refused refusal) = true
is_refusal (Accepted number findings) = false

abbrev pub is_refused_reply : ℕ × Reply → Bool
is_refused_reply told = is_refusal (brief_of told.1)

abbrev pub is_refused_entry : Entry → Bool
is_refused_entry e = is_refusal e.brief

-- of scripts on a cell in an order: how many commits are accepted, how many refused, and how many findings the cell has that they leave
unfoldable pub counts_of_run : Cell → List (List Command) → List ℕ → Drilled
counts_of_run c scripts order = record {
  accepted = length (history_after (opening c) (ordered_requests scripts order)).commits;
  refused = count_by is_refused_reply (replies_from (opening c) (ordered_requests scripts order));
  findings = finding_total (history_after (opening c) (ordered_requests scripts order)).cell;
}

-- of the generated scripts of so many sessions on the generated cell
abbrev pub drill_counts : ℕ → ℕ → Drilled
drill_counts n sessions = counts_of_run (generated_cell n) (generated_scripts n sessions) (round_robin sessions)

-- a drill has these counts, of all views and commits of its scripts, where the generated cell has not too many findings
pub record IsDrilled (n sessions : ℕ) (drilled : Drilled) : Type 0 where
  pub few : finding_total (generated_cell n) ≤ finding_limit
  pub whole : IsOrder (quotas_of (generated_scripts n sessions)) (round_robin sessions)
  pub counts : drilled ≡ drill_counts n sessions
