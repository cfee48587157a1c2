use Rattle.std.proofs.Common.{◌≡◌, ◌++◌, ◌∙◌, List, ap, arith, length-append}
use Rattle.s57_types.specs.declared.record.Rec.{Rec}
use Rattle.file_spec.specs.EncodedCell.{records_bytes}
use Rattle.cell_write.proofs.FitLists.{connected_fit, edges_fit, features_fit}
use Rattle.cell_write.proofs.RecordBytes.{next_records}
use Rattle.cell_write.proofs.cell.put_all_records.Goals as goal

pub put_records-requires-2-clause-fit : goal.put_records-requires-2-clause-fit
put_records-requires-2-clause-fit c = connected_fit c.args.cell.now _ c.requires c.as_slice-2.ensures

pub put_records-requires-3-clause-fit : goal.put_records-requires-3-clause-fit
put_records-requires-3-clause-fit c = edges_fit c.args.cell.now _ c.requires c.as_slice-3.ensures

pub put_records-requires-4-clause-fit : goal.put_records-requires-4-clause-fit
put_records-requires-4-clause-fit c = features_fit c.args.cell.now _ c.requires c.as_slice-4.ensures

pub returns : goal.returns
returns c =
    let cell = c.args.cell.now in
    let nall = cell.head.nall in
    let out = c.args.out.now.items in
    let one : c.put_records.new.out.items ≡ out ++ records_bytes nall 3 cell.vi =
    c.in_ok-put_records.ensures ∙ ap (λ (r : List Rec). out ++ records_bytes nall 3 r) c.as_slice.ensures in
    let two : c.put_records-2.new.out.items ≡ out ++ records_bytes nall 3 (cell.vi ++ cell.vc) =
    next_records nall 3 _ cell.vi cell.vc _ out _ _ c.as_slice-2.ensures (omega arith) one c.in_ok-put_records-2.ensures in
    let three : c.put_records-3.new.out.items ≡ out ++ records_bytes nall 3 (cell.vi ++ cell.vc ++ cell.ve) =
    next_records nall 3 _ (cell.vi ++ cell.vc) cell.ve _ out _ _ c.as_slice-3.ensures
    (omega (arith, length-append cell.vi cell.vc)) two c.in_ok-put_records-3.ensures in
    next_records nall 3 _ (cell.vi ++ cell.vc ++ cell.ve) cell.fe _ out _ _ c.as_slice-4.ensures
    (omega (arith, length-append (cell.vi ++ cell.vc) cell.ve, length-append cell.vi cell.vc)) three c.in_ok-put_records-4.ensures
