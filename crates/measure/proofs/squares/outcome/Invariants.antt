use Rattle.measure.proofs.squares.outcome.Given as goal

-- the counter's ledger is the one that the blank becomes
abbrev pub ghosts-reads_of : goal.ghosts-reads_of
ghosts-reads_of a = record { name = a.blank.name; parts = a.blank.parts }
