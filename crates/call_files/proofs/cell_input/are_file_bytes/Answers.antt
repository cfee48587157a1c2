use Rattle.std.proofs.Common.{◌<◌, subst}
use Rattle.std.proofs.lemmas.List.{get_or_default}
use Rattle.call_files.proofs.cell_input.are_file_bytes.Goals as goal

pub returns : goal.returns
returns c =
    let bytes = c.args.bytes.now in λ k d within. subst (λ b. b < 256) (get_or_default bytes k 0 d within) (c.type_inv.bytes k).fits
