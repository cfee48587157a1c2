use Rattle.room_laws.proofs.Interleaved.{run_of_entries}
use Rattle.room_laws.proofs.Reports.{report_of_entries, cell_of_entries}
use Rattle.room_laws.proofs.law.a_history_has_the_report_of_its_order.Goals as goal

pub returns-clause-report : goal.returns-clause-report
returns-clause-report c cell scripts entries texts r all = report_of_entries cell scripts entries texts (run_of_entries cell scripts entries r) all

pub returns-clause-cell : goal.returns-clause-cell
returns-clause-cell c cell scripts entries r = cell_of_entries cell scripts entries (run_of_entries cell scripts entries r)
