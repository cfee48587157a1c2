use Rattle.book_tests.proofs.tests.behind.a_session_behind_meets_the_first_commit_of_its_names.Given as goal

-- the counter's ledger is the one that the blank becomes
abbrev pub ghosts-check_behind : goal.ghosts-check_behind
ghosts-check_behind g a = record { name = a.blank.name; parts = a.blank.parts }
