use Rattle.std.proofs.Common.{length, sym, ap, ◌∙◌, arith}
use Rattle.std.proofs.lemmas.Result.{err_from_is_err_and}
use Rattle.script_text.proofs.Cuts.{length_front}
use Rattle.script_text.proofs.Fed.{unfed, parted}
use Rattle.script_text.proofs.Steps.{read_skipped, read_spoken, stuck_spoken}
use Rattle.script_text.proofs.reading.take_line.Goals as goal

pub split_at-requires : goal.split_at-requires
split_at-requires c = omega (arith, length_front 10 c.args.text.now, ap length c.cut_at.ensures.before)

pub returns-then-front-text-clause-read : goal.returns-then-front-text-clause-read
returns-then-front-text-clause-read c = (c.requires, unfed c.args.text.now _ c.cut_at.ensures.before c.if-front-text.true)

pub returns-then-is_skipped-clause-read : goal.returns-then-is_skipped-clause-read
returns-then-is_skipped-clause-read c =
    let p = parted c.args.text.now _ _ _ c.cut_at.ensures.before c.if-front-text.false c.split_at.ensures.front c.split_at.ensures.back in
    read_skipped _ _ _ _ _ p (sym c.is_skipped.ensures ∙ c.if-is_skipped.true)

pub take_command-requires : goal.take_command-requires
take_command-requires c = (parted c.args.text.now _ _ _ c.cut_at.ensures.before c.if-front-text.false c.split_at.ensures.front c.split_at.ensures.back).line_is

pub returns-clause-read : goal.returns-clause-read
returns-clause-read c =
    let p = parted c.args.text.now _ _ _ c.cut_at.ensures.before c.if-front-text.false c.split_at.ensures.front c.split_at.ensures.back in
    read_spoken _ _ _ _ _ _ p c.in_ok-take_command.ensures

pub returns-in_err-take_command-clause-read : goal.returns-in_err-take_command-clause-read
returns-in_err-take_command-clause-read c =
    let p = parted c.args.text.now _ _ _ c.cut_at.ensures.before c.if-front-text.false c.split_at.ensures.front c.split_at.ensures.back in
    let e = err_from_is_err_and c.from_residual.result c.from_residual.ensures.1 in
    rw (e.1, e.2) (stuck_spoken _ _ _ _ _ p (sym c.is_skipped.ensures ∙ c.if-is_skipped.false) _ c.in_err-take_command.ensures)
