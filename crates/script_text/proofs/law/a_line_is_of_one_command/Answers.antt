use Rattle.script_text.proofs.AlikeCommands.{alike_commands}
use Rattle.script_text.proofs.law.a_line_is_of_one_command.Goals as goal

pub returns : goal.returns
returns c = alike_commands
