use Rattle.recheck.proofs.loading.load.Given as goal

-- the counter is the one that the blank becomes
abbrev pub ghosts-load_counted : goal.ghosts-load_counted
ghosts-load_counted g a = record { name = a.blank.name; parts = a.blank.parts }
