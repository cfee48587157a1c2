use Rattle.std.proofs.Common.{◌≡◌, ◌||◌, take}
use Rattle.std.specs.List.{flat_map}
use Rattle.s57_types.specs.declared.name.RecName.{RecName}
use Rattle.subject_rows.specs.Names.{AreThere, is_among, names_of_pair}
use Rattle.subject_rows.proofs.names.push_pair_names.Given as goal

abbrev pub invariant-loop-subject : goal.invariant-loop-subject
invariant-loop-subject l =
    ((n : RecName) → is_among l.names.items n ≡ (is_among l.fn.names.items n || is_among (flat_map names_of_pair (take l.subject-index l.subjects)) n))
    × AreThere l.known l.names.items
