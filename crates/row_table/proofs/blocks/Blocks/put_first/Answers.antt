use Rattle.std.proofs.Common.{arith, ap, ◌∙◌, length, refl, Some, []}
use Rattle.std.proofs.lemmas.List.{length-map}
use Rattle.std.proofs.lemmas.List.Elements.{All-pop, All-cons, All-nil}
use Rattle.row_spec.specs.Rows.{with_row}
use Rattle.row_spec.specs.Blocks.{IsEmptyRun, IsFilled}
use Rattle.row_table.proofs.Starts.{starts_first}
use Rattle.row_spec.proofs.Runs.{nil_from_rows, nil_from_length}
use Rattle.row_table.proofs.blocks.Blocks.put_first.Goals as goal

pub invariant_of-self : goal.invariant_of-self
invariant_of-self g c =
    let free = All-pop IsEmptyRun _ _ (Some c.take_last-run.result) c.take_last-run.ensures.items c.self.invariant.1 in
    let none = nil_from_rows c.self.inside.runs.items (rw (← c.self.view_is) at c.requires.none) in
    let no_start = nil_from_length c.self.inside.starts.items
    (omega (arith, c.self.invariant.2.count, length-map c.self.inside.runs.items (λ run. run.rows), ap length none)) in
    let row = c.put-none.ensures.rows ∙ ap (λ rows. with_row g.K.Ord.cmp rows c.args.key c.args.value) free.1.none in
    let run : IsFilled c.put-none.new.self = record {
      some = rw row (omega arith);
      few = rw row (omega arith);
      room =
          omega (arith, free.1.room, c.put-none.ensures.room);
    } in (
      rw (c.push_reserved.ensures.items, none) (All-cons IsFilled c.put-none.new.self [] run (All-nil IsFilled)),
      free.0,
      rw (c.push_reserved.ensures.items, c.push_reserved-2.ensures.items, none, no_start, row) (starts_first (c.args.key, c.args.value)),
      (
        omega (arith, c.push_reserved.ensures.len, c.push_reserved.ensures.capacity, c.take_last-run.ensures.len, c.self.invariant.3.0),
        omega (arith, c.push_reserved.ensures.len, c.push_reserved-2.ensures.capacity, c.take_last-run.ensures.len, c.self.invariant.3.1),
        omega (arith, c.push_reserved.ensures.len, c.take_last-run.ensures.capacity, c.take_last-run.ensures.len, c.self.invariant.3.2),
      ),
    )

pub returns-clause-blocks : goal.returns-clause-blocks
returns-clause-blocks g c =
    let free = All-pop IsEmptyRun _ _ (Some c.take_last-run.result) c.take_last-run.ensures.items c.self.invariant.1 in
    let none = nil_from_rows c.self.inside.runs.items (rw (← c.self.view_is) at c.requires.none) in
    let row = c.put-none.ensures.rows ∙ ap (λ rows. with_row g.K.Ord.cmp rows c.args.key c.args.value) free.1.none in
    rw (c.push_reserved.ensures.items, none, row) refl
