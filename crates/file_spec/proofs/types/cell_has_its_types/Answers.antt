use Rattle.std.proofs.Common.{List, ◌++◌}
use Rattle.s57_types.specs.declared.record.Rec.{Rec}
use Rattle.file_spec.specs.RoundTrip.{RecordHasForms}
use Rattle.cell_spec.proofs.EachItem.{each_append}
use Rattle.file_spec.proofs.TypedCell.{records_at}
use Rattle.file_spec.proofs.types.cell_has_its_types.Goals as goal

pub returns : goal.returns
returns c =
    let cell = c.args.cell.now in
    let typed = RecordHasForms cell.head.nall in
    let join = λ (xs ys : List Rec). each_append typed xs ys in
    let nodes = join cell.vi cell.vc (records_at cell.head.nall c.as_slice.result.now cell.vi c.as_slice.ensures c.all_have_their_types.ensures)
    (records_at cell.head.nall c.as_slice-2.result.now cell.vc c.as_slice-2.ensures c.all_have_their_types-2.ensures) in
    let vectors = join (cell.vi ++ cell.vc) cell.ve nodes (records_at cell.head.nall c.as_slice-3.result.now cell.ve c.as_slice-3.ensures
    c.all_have_their_types-3.ensures) in record {
      dsid = c.identification_has_its_types.ensures;
      dspm = c.parameters_have_their_types.ensures;
      records = join (cell.vi ++ cell.vc ++ cell.ve) cell.fe vectors
          (records_at cell.head.nall c.as_slice-4.result.now cell.fe c.as_slice-4.ensures c.all_have_their_types-4.ensures);
    }
