use Rattle.cell_findings.proofs.threads.find_all_in_threads.Given as goal

-- the counter is the one that the blank becomes
abbrev pub ghosts-find_alone : goal.ghosts-find_alone
ghosts-find_alone g a = record { name = a.blank.name; parts = a.blank.parts }
