-- What holds of a feature of a cell where what the cell answers to its read set is near. This project's own.
use Rattle.std.specs.Prelude.{◌≡◌, List, Some}
use Rattle.s57_types.specs.declared.cell.Cell.{Cell}
use Rattle.s57_types.specs.declared.name.RecName.{RecName}
use Rattle.s57_types.specs.declared.record.Feature.{Feature}
use Rattle.s57_types.specs.declared.record.Rec.TheVariants.{F}
use Rattle.cell_spec.specs.declared.key.Key.{Key}
use Rattle.cell_spec.specs.declared.key.Subject.TheVariants.{Rec}
use Rattle.cell_spec.specs.Lookup.{lookup_record}
use Rattle.rule_spec.specs.Reads.{read_set}

abbrev pub WhereNear : (Cell → List Key → Type 0) → Feature → (Cell → Type 0) → Type 0
WhereNear Tells f Holds =
    (c : Cell) (n : RecName) (keys : List Key) → Tells c keys → keys ≡ read_set c (Rec n) → lookup_record c n ≡ Some (F f) → Holds c
