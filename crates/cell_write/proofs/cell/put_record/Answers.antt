use Rattle.cell_write.proofs.ShortRecords.{short_as, record_short}
use Rattle.cell_write.proofs.cell.put_record.Goals as goal

pub put_fields-requires : goal.put_fields-requires
put_fields-requires c = short_as _ _ _ c.as_slice.ensures.value c.in_ok-fields.ensures (record_short c.args.nall _ c.args.rec.now c.requires)
