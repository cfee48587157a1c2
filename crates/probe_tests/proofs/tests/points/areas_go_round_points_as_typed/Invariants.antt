use Rattle.probe_tests.proofs.tests.points.areas_go_round_points_as_typed.Given as goal

-- the counter's ledger is the one that the blank becomes
abbrev pub ghosts-check_all : goal.ghosts-check_all
ghosts-check_all g a = record { name = a.blank.name; parts = a.blank.parts }
