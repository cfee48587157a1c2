-- The generated scripts: ten rounds of view, one edit, commit. This project's own.
use Rattle.std.specs.Prelude.{ℕ, pos, ◌+◌, ◌*◌, ◌/◌, ◌%◌, ◌==◌, List, [], ◌∷◌, map, if◌then◌else◌}
use Rattle.std.specs.List.{flat_map, range_with_len}
use Rattle.s57_types.specs.declared.name.Kind.TheVariants.{Vc, Fe}
use Rattle.s57_types.specs.declared.record.Rec.{Rec}
use Rattle.s57_types.specs.declared.record.Rec.TheVariants.{V}
use Rattle.cell_spec.specs.declared.edit.Edit.{Edit}
use Rattle.cell_spec.specs.declared.edit.Edit.TheVariants.{Set, Del}
use Rattle.text_spec.specs.declared.command.Command.{Command}
use Rattle.text_spec.specs.declared.command.Command.TheVariants.{View, Commit, Push}
use Rattle.cell_parts.specs.Parts.{name}
use Rattle.cell_make.specs.Squares.{side}

-- the number by which a round of a script chooses its record
abbrev pub choice : ℕ → ℕ → ℕ
choice script round = 37 * script + 101 * round

-- the node that stands at a place of the list of nodes, moved north and east, in its second version
abbrev pub moved_node : ℕ → ℕ → ℕ → ℕ → Rec
moved_node n place north east = V (record {
  name = name Vc (1 + place);
  rver = 2;
  attrs = [];
  ends = [];
  plane = (pos (side * (place / (n + 1)) + north), pos (side * (place % (n + 1)) + east)) ∷ [];
  deep = [];
})

-- odd rounds move a node north by the number of the round and east by that of the script; even rounds delete a depth area
abbrev pub generated_edit : ℕ → ℕ → ℕ → Edit
generated_edit n script round =
    if round % 2 == 1 then Set (moved_node n (choice script round % ((n + 1) * (n + 1))) round script)
    else Del (name Fe (1 + choice script round % (n * n)))

abbrev pub generated_round : ℕ → ℕ → ℕ → List Command
generated_round n script round = View ∷ Push (generated_edit n script round) ∷ Commit ∷ []

abbrev pub generated_script : ℕ → ℕ → List Command
generated_script n script = flat_map (generated_round n script) (range_with_len 1 10)

-- the scripts of so many sessions
abbrev pub generated_scripts : ℕ → ℕ → List (List Command)
generated_scripts n sessions = map (generated_script n) (range_with_len 1 sessions)
