use Rattle.bench_tests.proofs.tests.far.findings_come_and_go.Given as goal

-- the counter's ledger is the one that the blank becomes
abbrev pub ghosts-check_from : goal.ghosts-check_from
ghosts-check_from g a = record { name = a.blank.name; parts = a.blank.parts }
