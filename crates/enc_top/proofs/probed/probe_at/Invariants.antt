use Rattle.enc_top.proofs.probed.probe_at.Given as goal

-- the counter is the one that the blank becomes
abbrev pub ghosts-probed_work : goal.ghosts-probed_work
ghosts-probed_work g a = record { name = a.blank.name; parts = a.blank.parts }
