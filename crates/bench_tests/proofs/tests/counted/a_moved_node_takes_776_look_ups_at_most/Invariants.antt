use Rattle.bench_tests.proofs.tests.counted.a_moved_node_takes_776_look_ups_at_most.Given as goal

-- the counter's ledger is the one that the blank becomes
abbrev pub ghosts-check_move : goal.ghosts-check_move
ghosts-check_move g a = record { name = a.blank.name; parts = a.blank.parts }
