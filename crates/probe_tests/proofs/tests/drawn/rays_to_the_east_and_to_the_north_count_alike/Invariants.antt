use Rattle.probe_tests.proofs.tests.drawn.rays_to_the_east_and_to_the_north_count_alike.Given as goal

-- the counter's ledger is the one that the blank becomes
abbrev pub ghosts-check_lines : goal.ghosts-check_lines
ghosts-check_lines g a = record { name = a.blank.name; parts = a.blank.parts }
