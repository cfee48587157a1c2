use Rattle.std.proofs.Common.{◌-◌, arith}
use Rattle.record_store.proofs.Behind.{below_last}
use Rattle.record_store.proofs.file_lists.place_behind.Goals as goal

pub returns : goal.returns
returns c =
    below_last c.args.list.now (c.len-count.result - 1) (c.row.result.0.now, c.row.result.1.now)
    (omega (arith, c.len-count.ensures.len)) c.row.ensures c.len-count.ensures.ascending
