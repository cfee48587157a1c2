-- Causes of refusal that splitting and joining have in common. This project's own rules.
use Rattle.std.specs.Prelude.{ℕ, ◌==◌, ◌||◌, List, ◌∷◌, [], Option, None, Some, length, map, nat_lt, is_some, option_map, if◌then◌else◌}
use Rattle.s57_types.specs.declared.name.RecName.{RecName}
use Rattle.s57_types.specs.declared.record.Feature.{Feature}
use Rattle.s57_types.specs.declared.record.Vector.{Vector}
use Rattle.s57_types.specs.declared.cell.Cell.{Cell}
use Rattle.cell_spec.specs.declared.edit.Edit.{Edit}
use Rattle.cell_spec.specs.Lookup.{lookup_pointers, lookup_record}
use Rattle.edit_sets.specs.FormFault.{form_fault}
use Rattle.topo_ops.specs.Refusals.{first_of}
use Rattle.topo_ops.specs.declared.refusal.OpRefusal.{OpRefusal}
use Rattle.topo_ops.specs.declared.refusal.OpRefusal.TheVariants.{NameTaken, VersionEnd, Form}

-- a name is in use: the cell has a record of it, or a pointer names it
abbrev pub name_taken : Cell → RecName → Option OpRefusal
name_taken c n = if is_some (lookup_record c n) || nat_lt 0 (length (lookup_pointers c n)) then Some (NameTaken n) else None

-- the greatest version (RVER) of a record
abbrev pub last_version : ℕ
last_version = 65535

-- a record can't go one version on
abbrev pub ended_version : RecName → ℕ → Option OpRefusal
ended_version name rver = if rver == last_version then Some (VersionEnd name) else None

abbrev pub feature_version : Feature → Option OpRefusal
feature_version f = ended_version f.name f.rver

-- the least of an edge and features that can't go one version on; edges stand before features
abbrev pub version_end : Vector → List Feature → Option OpRefusal
version_end e fs = first_of (ended_version e.name e.rver ∷ map feature_version fs)

-- the edits have a fault of form
abbrev pub form_refused : ℕ → List Edit → Option OpRefusal
form_refused nall edits = option_map Form (form_fault nall edits [])
