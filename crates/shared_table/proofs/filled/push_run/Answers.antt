use Rattle.std.proofs.lemmas.List.Elements.{All-push}
use Rattle.shared_table.proofs.Gathered.{first_row, rows_of-push}
use Rattle.shared_table.proofs.Parts.{Begins}
use Rattle.shared_table.proofs.filled.push_run.Goals as goal

pub returns-clause-rows : goal.returns-clause-rows
returns-clause-rows g c = rw (c.in_ok-push.ensures.items, c.in_ok-make.ensures, c.of.ensures) (rows_of-push c.args.runs.now.items _)

pub returns-clause-begin : goal.returns-clause-begin
returns-clause-begin g c = rw (c.in_ok-push.ensures.items, c.in_ok-make.ensures, c.of.ensures) (All-push Begins c.args.runs.now.items _ c.requires.begin
    (rw (← c.deref.ensures.value) (first_row c.deref.result.now c.in-Some.first.now c.in-Some.ensures.value)))
