use Rattle.book_tests.proofs.tests.memory.a_refused_commit_is_made_again.Given as goal

-- the counter's ledger is the one that the blank becomes
abbrev pub ghosts-check_commits : goal.ghosts-check_commits
ghosts-check_commits g a = record { name = a.blank.name; parts = a.blank.parts }
