use Rattle.std.proofs.Common.{◌++◌, ◌∙◌, ap, sym, arith, append-nil, reverse}
use Rattle.row_spec.proofs.Runs.{nil_from_length}
use Rattle.shared_table.specs.Pieces.{rows_of}
use Rattle.shared_table.proofs.Gathered.{moved, begun_anew, none_left, popped, run_ascends}
use Rattle.shared_table.proofs.filled.runs_of.Goals as goal
use Rattle.shared_table.proofs.filled.runs_of.Goals.{then-len-ge-FILLED+in_ok-with_capacity+in_ok-push_run, else-len-ge-FILLED}

pub push_run-requires-clause-ascending : goal.push_run-requires-clause-ascending
push_run-requires-clause-ascending g c = rw (c.replace-full.ensures.value) (run_ascends g.K.Ord.cmp (rows_of c.loop-row.runs.items) c.loop-row.run.items
    (reverse c.loop-row.left.items) c.args.rows.items c.loop-row.invariant.0 c.requires)

pub loop-row-preserved : goal.loop-row-preserved
loop-row-preserved g c =
    let next = popped c.in-Some.row c.loop-row.left.items c.pop.new.self.items c.in-Some.ensures.items in
    elim c.if-len-ge-FILLED.branch [
      | then-len-ge-FILLED+in_ok-with_capacity+in_ok-push_run w ↦ rw (
        c.in_ok-push.ensures.items,
        w.runs-is,
        w.run-is,
        w.left-is,
        w.give_back.ensures.items,
        w.replace-full.ensures.after,
        w.in_ok-with_capacity.ensures.items,
        w.in_ok-push_run.ensures.rows,
        w.replace-full.ensures.value,
      ) (
        begun_anew (rows_of c.loop-row.runs.items) c.loop-row.run.items (reverse c.loop-row.left.items) (reverse c.pop.new.self.items)
            c.args.rows.items c.in-Some.row next c.loop-row.invariant.0,
        w.in_ok-push_run.ensures.begin,
      )
      | else-len-ge-FILLED w ↦ rw (c.in_ok-push.ensures.items, w.runs-is, w.run-is, w.left-is) (
        moved (rows_of c.loop-row.runs.items) c.loop-row.run.items (reverse c.loop-row.left.items) (reverse c.pop.new.self.items)
            c.args.rows.items c.in-Some.row next c.loop-row.invariant.0,
        c.loop-row.invariant.1,
      )
    ]

pub push_run-requires-2-clause-ascending : goal.push_run-requires-2-clause-ascending
push_run-requires-2-clause-ascending g c = run_ascends g.K.Ord.cmp (rows_of c.loop-row.runs.items) c.loop-row.run.items (reverse c.loop-row.left.items)
    c.args.rows.items c.loop-row.invariant.0 c.requires

pub returns-clause-rows : goal.returns-clause-rows
returns-clause-rows g c =
    let empty = none_left c.pop.result _ _ _ c.in_default.not-Some c.pop.ensures.cases in
    let none = nil_from_length c.loop-row.left.items (omega (arith, empty, c.loop-row.left.ok.0)) in
    c.in_ok-push_run-2.ensures.rows ∙ ap (λ r. rows_of c.loop-row.runs.items ++ r) (sym (append-nil c.loop-row.run.items)) ∙ rw none at c.loop-row.invariant.0
