use Rattle.draw_top.proofs.drawing.decode.Goals as goal

pub returns-in-Ok-clause-writable : goal.returns-in-Ok-clause-writable
returns-in-Ok-clause-writable c = c.decoded_cell_is_writable.ensures c.args.bytes.now c.in-Ok.cell c.in-Ok.ensures
