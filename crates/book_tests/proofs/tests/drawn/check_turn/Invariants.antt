use Rattle.book_tests.proofs.tests.drawn.check_turn.Given as goal

-- the counter's ledger is the one that the blank becomes
abbrev pub ghosts-check_judged : goal.ghosts-check_judged
ghosts-check_judged g a = record { name = a.blank.name; parts = a.blank.parts }
