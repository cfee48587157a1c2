use Rattle.recheck.proofs.judging.look_and_judge.Given as goal

-- the counter is the one that the blank becomes
abbrev pub ghosts-counted : goal.ghosts-counted
ghosts-counted g a = record { name = a.blank.name; parts = a.blank.parts }
