use Rattle.enc_top.proofs.edge.edit.Given as goal

-- the counter is the one that the blank becomes
abbrev pub ghosts-operate : goal.ghosts-operate
ghosts-operate g a = record { name = a.blank.name; parts = a.blank.parts }
