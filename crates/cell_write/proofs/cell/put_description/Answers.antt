use Rattle.cell_write.proofs.ShortRecords.{short_as, descriptive_short}
use Rattle.cell_write.proofs.cell.put_description.Goals as goal

pub put_fields-requires : goal.put_fields-requires
put_fields-requires c = short_as _ _ _ c.as_slice.ensures.value c.in_ok-fields.ensures (descriptive_short c.args.aall c.args.nall)
