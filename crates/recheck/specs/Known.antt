-- What is kept of what was looked up. This project's own.
use Rattle.std.specs.Prelude.{◌≡◌, Option, IfSome}
use Rattle.std.specs.Option.{option_copied}
use Rattle.s57_types.specs.declared.cell.Cell.{Cell}
use Rattle.cell_spec.specs.Lookup.{lookup_record}
use Rattle.recheck.specs.declared.known.Found.{Found}

-- what is kept in a place, if anything, is what a cell has under its name
abbrev pub IsFound : Cell → Option Found → Type 0
IsFound c kept = IfSome kept (λ (found : Found). option_copied found.record ≡ lookup_record c found.name)
