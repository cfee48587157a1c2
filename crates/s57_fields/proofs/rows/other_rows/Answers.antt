use Rattle.std.proofs.Common.{◌≡◌, ◌-◌, ◌<◌, ◌++◌, ◌∷◌, [], suc, length, length-append, arith, None, Some, sym, ap, refl}
use Rattle.s57_fields.specs.RowCutting.{rows_from, take_row, content_of_rows}
use Rattle.s57_fields.proofs.RowWalk.{goes_on, stops, is_done}
use Rattle.s57_fields.proofs.rows.other_rows.Goals as goal

pub returns-in_default : goal.returns-in_default
returns-in_default g c = let layout = g.R.FieldRow.layout c.args.level in let body = c.args.body.now in let rows = c.loop-rest.rows in
    let some : 0 < length c.loop-rest.rest.now = grind arith in
    let left : length body - length rows ≡ suc (length body - length rows - 1) = omega arith in
    let front = c.in_ok-row.ensures.cut in
    let taken : take_row layout c.loop-rest.rest.now ≡ None = sym (rw c.in_default.is at front) in
    ap content_of_rows (stops layout rows c.loop-rest.all_plain (rows_from layout (length body) body)
    (length body - length rows) (length body - length rows - 1) c.loop-rest.rest.now some left taken c.loop-rest.invariant.walk)

pub returns-then-not-all_plain : goal.returns-then-not-all_plain
returns-then-not-all_plain g c = let layout = g.R.FieldRow.layout c.args.level in let body = c.args.body.now in
    let done = is_done layout c.loop-rest.rows c.loop-rest.all_plain (rows_from layout (length body) body)
    (length body - length c.loop-rest.rows) c.loop-rest.rest.now (grind arith) c.loop-rest.invariant.walk in
    rw (done, c.if-not-all_plain.true) refl

pub returns : goal.returns
returns g c = let layout = g.R.FieldRow.layout c.args.level in let body = c.args.body.now in
    let done = is_done layout c.loop-rest.rows c.loop-rest.all_plain (rows_from layout (length body) body)
    (length body - length c.loop-rest.rows) c.loop-rest.rest.now (grind arith) c.loop-rest.invariant.walk in
    rw (done, c.if-not-all_plain.false) refl

pub loop-rest-preserved : goal.loop-rest-preserved
loop-rest-preserved g c = let layout = g.R.FieldRow.layout c.args.level in let body = c.args.body.now in let rows = c.loop-rest.rows in
    let some : 0 < length c.loop-rest.rest.now = grind arith in
    let j = length body - length (rows ++ c.in-Some.row ∷ []) in
    let more = length-append rows (c.in-Some.row ∷ []) in
    let left : length body - length rows ≡ suc j = omega (arith, more) in
    let front = c.in_ok-row.ensures.cut in
    let taken : take_row layout c.loop-rest.rest.now ≡ Some (c.in-Some.row, c.in-Some.is_plain, c.in-Some.after.now) =
    sym (rw c.in-Some.is at front) in
    let walk = goes_on layout rows c.loop-rest.all_plain (rows_from layout (length body) body)
    (length body - length rows) j c.loop-rest.rest.now
    c.in-Some.row c.in-Some.is_plain c.in-Some.after.now some left taken c.loop-rest.invariant.walk in
    let shorter = rw c.in-Some.is at c.in_ok-row.ensures.shorter in
    record {
      walk = rw (c.in_ok-push.ensures.ok) walk;
      room = rw (c.in_ok-push.ensures.ok) (omega (arith, more, shorter));
    }
