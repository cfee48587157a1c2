use Rattle.bench_tests.proofs.tests.lean.lean_plan.Given as goal

-- the counter's ledger is the one that the blank becomes
abbrev pub ghosts-check_commits : goal.ghosts-check_commits
ghosts-check_commits g a = record { name = a.blank.name; parts = a.blank.parts }
