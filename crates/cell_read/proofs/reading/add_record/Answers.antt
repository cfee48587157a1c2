use Rattle.std.proofs.Common.{◌||◌, ◌+◌, refl, ap, ◌∙◌}
use Rattle.s57_types.specs.declared.name.RecName.{RecName}
use Rattle.cell_spec.specs.Names.{same_name}
use Rattle.file_spec.specs.CellRecords.{with_record_of_kind}
use Rattle.cell_read.specs.NamesSeen.{has_name}
use Rattle.cell_read.proofs.Grown.{known_grown}
use Rattle.cell_read.proofs.reading.add_record.Goals as goal

pub returns-clause-known : goal.returns-clause-known
returns-clause-known c = let before = c.args.reading.now in
    known_grown before (record { cell = c.push_record.new.cell; names = c.add.new.self; count = before.count + 1 }) c.args.rec
    c.requires.listed c.requires.known
    (c.in_ok-push_record.ensures ∙ ap (λ (name : RecName). with_record_of_kind name.kind c.args.rec before.cell) c.name-name.ensures)
    (λ n. c.in_ok-add.ensures.names n ∙ ap (λ name. same_name n name || has_name before.names n) c.name-name.ensures)
    c.in_ok-add.ensures.ascends refl
