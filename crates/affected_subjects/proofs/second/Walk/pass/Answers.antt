use Rattle.std.proofs.Common.{sym, subst, ap, ◌∙◌}
use Rattle.std.specs.List.Sorted.{IsStrictlySortedBy}
use Rattle.cell_spec.specs.Names.{name_order}
use Rattle.affected_subjects.specs.NewPairs.{walk_past, walked_by}
use Rattle.affected_subjects.proofs.NewPairs.{mates_rise, none_rise, past_same}
use Rattle.affected_subjects.proofs.second.Walk.pass.Goals as goal

pub add_pairs-requires : goal.add_pairs-requires
add_pairs-requires c = none_rise

pub add_pairs-requires-2 : goal.add_pairs-requires-2
add_pairs-requires-2 c =
    subst (IsStrictlySortedBy name_order) (sym (c.as_slice-2.ensures ∙ c.in_ok-before.ensures)) (mates_rise c.args.tiles.now c.requires.rows c.in-Rec.name)

pub returns-then-noted : goal.returns-then-noted
returns-then-noted c =
    let before = c.args.tiles.now in
    let after = c.args.noted.now.plan in
    let w = walked_by c.args.self.now in
    past_same before after w (walked_by c.note.new.self) (walked_by c.add_pairs.new.self) c.in-Rec.name c.in_ok-note.field-0 c.as_slice.result.now
    c.in_ok-note.ensures.new c.if-not-branch.false c.in_ok-note.ensures.noted (c.as_slice.ensures ∙ c.in_ok-before.ensures)
    (c.requires.same c.if-noted.true c.in-Rec.name) c.in_ok-add_pairs.ensures
    ∙ ap (walk_past before after w) (sym c.in-Rec.is)
