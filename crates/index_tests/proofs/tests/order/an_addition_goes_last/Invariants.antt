use Rattle.index_tests.proofs.tests.order.an_addition_goes_last.Given as goal

-- the counter's ledger is the one that the blank becomes
abbrev pub ghosts-check_each : goal.ghosts-check_each
ghosts-check_each g a = record { name = a.blank.name; parts = a.blank.parts }
