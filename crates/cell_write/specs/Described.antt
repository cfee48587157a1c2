-- The field that a row of the table of descriptions stands for.
use Rattle.std.specs.Prelude.{ℕ, [], ◌∷◌, ◌++◌}
use Rattle.frame_spec.specs.RecordFrame.{Field}
use Rattle.s57_types.specs.Subfield.{unit_terminator, field_terminator}
use Rattle.file_spec.specs.DescriptiveRecord.{level_controls}
use Rattle.cell_write.specs.declared.description.Description.{Description}
use Rattle.cell_write.specs.declared.description.Texts.{Texts}
use Rattle.cell_write.specs.declared.description.Texts.TheVariants.{Plain, Attributes, NationalAttributes}

-- the lexical level of texts
abbrev pub level_of : ℕ → ℕ → Texts → ℕ
level_of aall nall Plain = 0
level_of aall nall Attributes = aall
level_of aall nall NationalAttributes = nall

-- the field that says a description at the levels AALL and NALL
abbrev pub described_field : ℕ → ℕ → Description → Field
described_field aall nall d = record {
  tag = d.tag;
  bytes = d.controls.now ++ level_controls (level_of aall nall d.texts) ++ d.name.now ++ (unit_terminator ∷ []) ++ d.labels.now
      ++ (unit_terminator ∷ []) ++ d.formats.now ++ (field_terminator ∷ []);
}
