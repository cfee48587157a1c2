use Rattle.bench_tests.proofs.tests.ready.ready_rows_are_taken_where_they_are_valid.Given as goal

-- the counter's ledger is the one that the blank becomes
abbrev pub ghosts-check_rows : goal.ghosts-check_rows
ghosts-check_rows g a = record { name = a.blank.name; parts = a.blank.parts }
