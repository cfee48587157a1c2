use Rattle.std.proofs.Common.{◌≡◌, ◌<◌, ◌+◌, ◌-◌, Some, true, false, cond, sym, ap, ◌∙◌, arith}
use Rattle.std.specs.List.{find, range_with_len}
use Rattle.enc_top.specs.Words.{is_written_as}
use Rattle.enc_top.proofs.Ranges.{find-range_from}
use Rattle.enc_top.proofs.words.number_up_to.Goals as goal

pub loop-number-preserved : goal.loop-number-preserved
loop-number-preserved c = let n = c.loop-number.number in let end = c.args.limit + 1 in let word = c.args.word.now in
    let below : n < end = omega arith in
    let test : is_written_as word n ≡ false = sym c.if-is_number.ensures in
    sym (find-range_from (is_written_as word) n end below ∙ ap
    (λ b. cond b (Some n) (find (is_written_as word) (range_with_len (n + 1) (end - (n + 1))))) test) ∙ c.loop-number.invariant

pub returns-then-is_number-clause-number : goal.returns-then-is_number-clause-number
returns-then-is_number-clause-number c = let n = c.loop-number.number in let end = c.args.limit + 1 in let word = c.args.word.now in
    let below : n < end = omega arith in
    let test : is_written_as word n ≡ true = sym c.if-is_number.ensures in
    sym (find-range_from (is_written_as word) n end below ∙ ap
    (λ b. cond b (Some n) (find (is_written_as word) (range_with_len (n + 1) (end - (n + 1))))) test) ∙ c.loop-number.invariant
