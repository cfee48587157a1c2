use Rattle.std.proofs.Common.{◌≡◌, ◌++◌, length, string_bytes, ap, ◌∙◌}
use Rattle.drill_run.specs.DrillText.{made_line}
use Rattle.enc_top.proofs.GeneratedWork.{made_is}
use Rattle.enc_top.proofs.made.made_work.Goals as goal

pub returns : goal.returns
returns c =
    let cell = c.in_ok-cell.cell in
    let bytes = c.in_ok-bytes.bytes.items in
    let read = c.as_slice-size.result.now in
    let count : length read ≡ length bytes = ap length c.as_slice-size.ensures.value in
    let text = c.in_ok-push_made.ensures.ok ∙ ap (λ before. before ++ made_line cell (length read)) c.new-text.ensures.items ∙ ap (made_line cell) count in
    made_is c.args.size c.args.out.now cell (string_bytes c.in_ok-name.name) c.push_made.new.out.items bytes c.in_ok-cell.ensures.cell
    c.in_ok-name.ensures.ok text c.in_ok-bytes.ensures c.writable_cell_is_read_back.ensures
