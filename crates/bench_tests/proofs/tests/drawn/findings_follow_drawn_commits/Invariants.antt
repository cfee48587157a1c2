use Rattle.bench_tests.proofs.tests.drawn.findings_follow_drawn_commits.Given as goal

-- the counter's ledger is the one that the blank becomes
abbrev pub ghosts-check_rounds : goal.ghosts-check_rounds
ghosts-check_rounds g a = record { name = a.blank.name; parts = a.blank.parts }
