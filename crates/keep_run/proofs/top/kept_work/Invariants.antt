use Rattle.keep_run.proofs.top.kept_work.Given as goal

-- the counter is the one that the blank becomes
abbrev pub ghosts-keep : goal.ghosts-keep
ghosts-keep g a = record { name = a.blank.name; parts = a.blank.parts }
