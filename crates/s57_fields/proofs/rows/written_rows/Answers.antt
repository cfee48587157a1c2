use Rattle.std.proofs.Common.{◌≡◌, ◌∙◌, ◌<◌, ◌*◌, ◌+◌, ◌/◌, ap, drop, get_or, length, sym, take, arith, length-set}
use Rattle.s57_fields.specs.RowCutting.{rows_from, take_row}
use Rattle.s57_fields.proofs.MoreBytes.{chunk_row, chunk_room, get_chunk}
use Rattle.s57_fields.proofs.RowWalk.{writes_on}
use Rattle.s57_fields.proofs.rows.written_rows.Goals as goal

pub loop-place-preserved : goal.loop-place-preserved
loop-place-preserved g c = let layout = g.R.FieldRow.layout c.args.level in let body = c.args.body.now in let l = c.loop-place in let n = g.row.N in
    let test = c.loop-place-test.true in
    let count = l.invariant.count in
    let counted = c.requires.chunk_count in
    let placed : l.place < length body / n = omega (arith, test, counted) in
    let room = chunk_room n l.place body c.requires.size.0 placed in
    let at = c.index-chunks-place in
    let chunk : at.result ≡ take n (drop (l.place * n) body) = at.is ∙ ap (λ chunks. get_or chunks l.place at.result) c.requires.chunks
    ∙ get_chunk n l.place (length body / n) body at.result placed in
    let filled = rw c.in-Some.is at c.in_ok-row.ensures in
    let taken = chunk_row layout n l.place body c.in-Some.row c.in-Some.is_plain (ap (take_row layout) (sym chunk) ∙ filled) in
    record {
      walk = writes_on layout l.rows.items l.place l.all_plain (rows_from layout (length body) body)
          (length body) (drop (l.place * n) body) c.in-Some.row c.in-Some.is_plain (drop ((l.place + 1) * n) body)
          (omega (arith, placed, count)) room.0 room.1 taken l.invariant.walk;
      count = length-set l.rows.items l.place c.in-Some.row ∙ count;
    }
