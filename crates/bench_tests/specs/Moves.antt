-- A connected node that is set to a place.
use Rattle.std.specs.Prelude.{ℕ, ℤ, pos, [], ◌∷◌}
use Rattle.s57_types.specs.declared.name.Kind.TheVariants.{Vc}
use Rattle.s57_types.specs.declared.record.Rec.{Rec}
use Rattle.s57_types.specs.declared.record.Rec.TheVariants.{V}
use Rattle.cell_spec.specs.declared.edit.Edit.{Edit}
use Rattle.cell_spec.specs.declared.edit.Edit.TheVariants.{Set}

-- a connected node of version 2 with one position
abbrev pub node_of : ℕ → ℤ × ℤ → Rec
node_of id position = V (record { name = record { kind = Vc; id = id }; rver = 2; attrs = []; ends = []; plane = position ∷ []; deep = [] })

-- node 1 of the square is moved by a unit north and east
abbrev pub moved_node : Edit
moved_node = Set (node_of 1 (pos 1, pos 1))
