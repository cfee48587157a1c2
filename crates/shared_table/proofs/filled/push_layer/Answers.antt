use Rattle.std.proofs.lemmas.List.Elements.{All-push}
use Rattle.shared_table.proofs.Gathered.{rows_of-push}
use Rattle.shared_table.proofs.Parts.{Begins, first_begins}
use Rattle.shared_table.proofs.filled.push_layer.Goals as goal

pub returns-clause-rows : goal.returns-clause-rows
returns-clause-rows g c = rw (c.in_ok-push.ensures.items, c.in_ok-make.ensures, c.in_ok-of.ensures) (rows_of-push c.args.layers.now.items _)

pub returns-clause-begin : goal.returns-clause-begin
returns-clause-begin g c = rw (c.in_ok-push.ensures.items, c.in_ok-make.ensures, c.in_ok-of.ensures) (All-push Begins c.args.layers.now.items _ c.requires.begin
    (rw (c.key-key.ensures, ← c.deref.ensures.value) (first_begins g.K.Ord.cmp c.deref.result.now c.in-Some.first.now
    (rw (c.deref.ensures.value) c.requires.parts) c.in-Some.ensures.value)))
