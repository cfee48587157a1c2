-- Where a mark of a record is held. This project's own.
use Rattle.std.specs.Prelude.{◌≡◌, Option, IfSome}
use Rattle.s57_types.specs.declared.cell.Cell.{Cell}
use Rattle.geometry_spec.specs.declared.tile.Box4.{Box4}
use Rattle.picture_places.specs.declared.hold.Held.{Held}
use Rattle.picture_places.specs.Labels.{anchor_of}
use Rattle.picture_places.specs.Strokes.{strokes_named}

-- what is kept of a record is where its mark is held
abbrev pub IsHeld : Cell → Box4 → Option Held → Type 0
IsHeld c around held = IfSome held (λ h. h.at ≡ anchor_of (strokes_named c around h.name))
