use Rattle.measure.proofs.lookups.outcome.Given as goal

-- the counter's ledger is the one that the blank becomes
abbrev pub ghosts-sum_of : goal.ghosts-sum_of
ghosts-sum_of a = record { name = a.blank.name; parts = a.blank.parts }
