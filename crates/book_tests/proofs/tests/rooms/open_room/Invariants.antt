use Rattle.book_tests.proofs.tests.rooms.open_room.Given as goal

-- the counter's ledger is the one that the blank becomes
abbrev pub ghosts-counted_room : goal.ghosts-counted_room
ghosts-counted_room g a = record { name = a.blank.name; parts = a.blank.parts }
