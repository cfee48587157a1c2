-- How many look-ups the move of a node of the square may take, by the definition.
use Rattle.std.proofs.Common.{◌≡◌, [], ◌∷◌, refl}
use Rattle.cell_spec.specs.Edits.{apply_edits, touched_keys}
use Rattle.rule_spec.specs.Affected.{affected_list, lookup_budget, plan_budget}
use Rattle.rule_spec.specs.Candidates.{candidates_of, segments_named}
use Rattle.rule_spec.specs.EdgePoints.{edge_line_of}
use Rattle.rule_spec.specs.Findings.{subjects}
use Rattle.rule_spec.specs.Reads.{read_set}
use Rattle.cell_make.specs.Square.{square}
use Rattle.bench_tests.specs.Moves.{moved_node}

pub move_budget : plan_budget (moved_node ∷ []) square [] [] ≡ 776
unfolding apply_edits touched_keys read_set affected_list lookup_budget candidates_of segments_named edge_line_of subjects
move_budget = refl
