-- What two cells answer to a key. This project's own rule.
use Rattle.std.specs.Prelude.{◌≡◌}
use Rattle.s57_types.specs.declared.cell.Cell.{Cell}
use Rattle.cell_spec.specs.declared.key.Key.{Key}
use Rattle.cell_spec.specs.declared.key.Key.TheVariants.{Name, Refs, Foid}
use Rattle.cell_spec.specs.Lookup.{lookup_record, lookup_pointers, lookup_identity}

-- two cells answer alike to a key: they have the same record or head of a name, the same pointers to it, the same bearers of an identifier
abbrev pub AnswerAlike : Cell → Cell → Key → Type 0
AnswerAlike c d (Name n) = lookup_record c n ≡ lookup_record d n
AnswerAlike c d (Refs n) = lookup_pointers c n ≡ lookup_pointers d n
AnswerAlike c d (Foid l) = lookup_identity c l ≡ lookup_identity d l
