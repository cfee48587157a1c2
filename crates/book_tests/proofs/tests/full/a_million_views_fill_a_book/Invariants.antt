use Rattle.book_tests.proofs.tests.full.a_million_views_fill_a_book.Given as goal

-- the counter's ledger is the one that the blank becomes
abbrev pub ghosts-check_full : goal.ghosts-check_full
ghosts-check_full g a = record { name = a.blank.name; parts = a.blank.parts }
