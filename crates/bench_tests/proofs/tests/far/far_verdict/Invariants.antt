use Rattle.bench_tests.proofs.tests.far.far_verdict.Given as goal

-- the counter's ledger is the one that the blank becomes
abbrev pub ghosts-check_from : goal.ghosts-check_from
ghosts-check_from g a = record { name = a.blank.name; parts = a.blank.parts }
