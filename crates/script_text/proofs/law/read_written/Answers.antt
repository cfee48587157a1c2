use Rattle.std.proofs.Common.{◌++◌, ap, ◌∙◌}
use Rattle.text_spec.specs.EditLine.{edit_line}
use Rattle.script_text.proofs.Commands.{written}
use Rattle.script_text.proofs.law.read_written.Goals as goal

pub returns : goal.returns
returns c = written c.read_command.result c.as_slice.result.now c.args.edit.now c.read_command.ensures
    (c.as_slice.ensures.value ∙ c.in_ok-write_edit.ensures.ok ∙ ap (λ t. t ++ edit_line c.args.edit.now) c.new-line.ensures.items)
    (c.requires.sort, c.requires.width)
