use Rattle.measure.proofs.store.outcome_of_sets.Given as goal

-- the counter's ledger is the one that the blank becomes
abbrev pub ghosts-change_all : goal.ghosts-change_all
ghosts-change_all a = record { name = a.blank.name; parts = a.blank.parts }
