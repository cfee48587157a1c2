use Rattle.enc_top.proofs.update.apply_file.Given as goal

-- the counter is the one that the blank becomes
abbrev pub ghosts-leave : goal.ghosts-leave
ghosts-leave g a = record { name = a.blank.name; parts = a.blank.parts }
