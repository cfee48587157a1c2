use Rattle.recheck.proofs.preparing.prepare.Given as goal

-- the counter is the one that the blank becomes
abbrev pub ghosts-judged_ahead : goal.ghosts-judged_ahead
ghosts-judged_ahead g a = record { name = a.blank.name; parts = a.blank.parts }
