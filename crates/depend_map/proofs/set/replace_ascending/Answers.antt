use Rattle.std.proofs.Common.{◌&&◌, not, sym, ap, ◌∙◌}
use Rattle.std.proofs.lemmas.Result.{on_ok_weaker}
use Rattle.cell_spec.specs.Names.{same_subject}
use Rattle.depend_map.specs.Readers.{has_pair, holds_key, is_lost}
use Rattle.depend_map.proofs.Pairs.{one_subject, replaced}
use Rattle.depend_map.proofs.set.replace_ascending.Goals as goal

pub put_gained-requires : goal.put_gained-requires
put_gained-requires c = record { ascending = c.requires.old; there = λ k holds. c.requires.kept k ∙ holds }

pub returns : goal.returns
returns c =
    let old = c.args.old.now in
    let new = c.args.new.now in
    on_ok_weaker c.take_lost.result (λ took k s.
    let same = same_subject c.args.subject s in
    took k s
    ∙ ap (λ b. not (same && is_lost old new k) && b) (c.in_ok-put_gained.ensures k s)
    ∙ replaced same (holds_key old k) (holds_key new k) (has_pair c.args.readers.now k s)
    (λ e. ap (has_pair c.args.readers.now k) (sym (one_subject c.args.subject s e)) ∙ c.requires.kept k))
    c.take_lost.ensures
