use Rattle.update_apply.proofs.target.record_named.Given as goal

-- the counter is the one that the blank becomes
abbrev pub ghosts-counted_record : goal.ghosts-counted_record
ghosts-counted_record a = record { name = a.blank.name; parts = a.blank.parts }
