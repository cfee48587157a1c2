use Rattle.sessions.proofs.run.replay.Given as goal

-- the counter is the one that the blank becomes
abbrev pub ghosts-serve_all : goal.ghosts-serve_all
ghosts-serve_all g a = record { name = a.blank.name; parts = a.blank.parts }
