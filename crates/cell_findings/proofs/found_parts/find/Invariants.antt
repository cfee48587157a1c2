use Rattle.cell_findings.proofs.found_parts.find.Given as goal

-- the counter is the one that the blank becomes
abbrev pub ghosts-counted : goal.ghosts-counted
ghosts-counted a = record { name = a.blank.name; parts = a.blank.parts }
