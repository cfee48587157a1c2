use Rattle.call_files.proofs.cell_input.decode.Goals as goal

pub returns-in-Ok-clause-writable : goal.returns-in-Ok-clause-writable
returns-in-Ok-clause-writable g c = c.decoded_cell_is_writable.ensures c.as_slice-file.result.now c.in-Ok.cell c.in-Ok.ensures

pub returns-in-Ok-clause-of_file : goal.returns-in-Ok-clause-of_file
returns-in-Ok-clause-of_file g c = (c.as_slice-file.result.now, c.are_file_bytes.ensures, c.in-Ok.ensures)
