-- A desk's copy of the cell. This project's own rules.
use Rattle.s57_types.specs.declared.cell.Cell.{Cell}
use Rattle.history_spec.specs.declared.reply.Reply.{Reply}
use Rattle.history_spec.specs.declared.reply.Reply.TheVariants.{Viewed, Formed, Newer, Refused, Accepted}

-- after an answer: the newest cell where the answer moves the desk's base, else the copy that it had
abbrev pub copy_after : Reply → Cell → Cell → Cell
copy_after (Viewed number findings) newest copy = newest
copy_after (Formed fault) newest copy = copy
copy_after (Newer number name desk edit) newest copy = copy
copy_after (Refused refusal) newest copy = copy
copy_after (Accepted number findings) newest copy = newest
