use Rattle.cell_write.proofs.ShortRecords.{short_as, identification_short, parameters_short}
use Rattle.cell_write.proofs.cell.put_head.Goals as goal

pub put_fields-requires : goal.put_fields-requires
put_fields-requires c = short_as _ _ _ c.as_slice.ensures.value c.in_ok-identification.ensures (identification_short 1 c.args.cell.now c.requires.head_fits)

pub put_fields-requires-2 : goal.put_fields-requires-2
put_fields-requires-2 c = short_as _ _ _ c.as_slice-2.ensures.value c.in_ok-parameters.ensures (parameters_short 2 c.args.cell.now.head c.requires.head_fits)
