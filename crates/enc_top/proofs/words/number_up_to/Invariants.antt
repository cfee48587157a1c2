use Rattle.std.proofs.Common.{◌≡◌, ◌-◌}
use Rattle.std.specs.List.{find, range_with_len}
use Rattle.enc_top.specs.Words.{is_written_as, number_up_to}
use Rattle.enc_top.proofs.words.number_up_to.Given as goal

abbrev pub invariant-loop-number : goal.invariant-loop-number
invariant-loop-number l = find (is_written_as l.word) (range_with_len l.number (l.number-end - l.number)) ≡ number_up_to l.limit l.word
