use Rattle.std.proofs.Common.{◌-◌, ◌<◌, ◌≤◌, length, refl, sym, ap, ◌∙◌, subst}
use Rattle.std.specs.Prelude.{count_by, slice_index_or}
use Rattle.std.proofs.lemmas.List.{length-map}
use Rattle.text_spec.specs.ScriptLines.{is_shared}
use Rattle.history_spec.specs.Entries.{entries_of}
use Rattle.sessions.specs.Replays.{IsEditor, scripts_of, session_limit}
use Rattle.sessions.specs.declared.editor.Editor.{Editor}
use Rattle.sessions.proofs.Numbered.{next_editor, next_left, next_room, next_served}
use Rattle.sessions.proofs.run.serve_all.Goals as goal

pub serve-requires-clause-room : goal.serve-requires-clause-room
serve-requires-clause-room g c κs within-lives =
    let scripts = scripts_of c.args.editors.now.items in
    next_room c.args.book.now.opening scripts c.args.order.now c.loop-number.number-index
    (slice_index_or c.args.order.now c.loop-number.number-index 0) c.loop-number.book c.loop-number.editors.items c.loop-number.invariant
    c.requires.order (subst (λ n. n ≤ session_limit) (sym (length-map c.args.editors.now.items (λ (e : Editor). e.session.script)))
    c.requires.few) c.requires.short

pub serve-requires-clause-editor : goal.serve-requires-clause-editor
serve-requires-clause-editor g c κs within-lives =
    let scripts = scripts_of c.args.editors.now.items in let number = slice_index_or c.args.order.now c.loop-number.number-index 0 in
    let within = c.requires.order.sessions c.loop-number.number-index 0 c.loop-number-test.true in
    let high = subst (λ n. number ≤ n) (length-map scripts (count_by is_shared)) within.1 in
    subst (IsEditor c.loop-number.book.opening c.loop-number.book.entries number) (sym c.index_mut.ensures.value)
    (next_editor c.args.book.now.opening scripts c.args.order.now c.loop-number.number-index number c.loop-number.book
    c.loop-number.editors.items c.loop-number.invariant _ within.0 high)

pub serve-requires-clause-left : goal.serve-requires-clause-left
serve-requires-clause-left g c κs within-lives =
    let scripts = scripts_of c.args.editors.now.items in let number = slice_index_or c.args.order.now c.loop-number.number-index 0 in
    let within = c.requires.order.sessions c.loop-number.number-index 0 c.loop-number-test.true in
    let high = subst (λ n. number ≤ n) (length-map scripts (count_by is_shared)) within.1 in
    subst (λ (e : Editor). length (entries_of number c.loop-number.book.entries) < count_by is_shared e.session.script) (sym c.index_mut.ensures.value)
    (next_left c.args.book.now.opening scripts c.args.order.now c.loop-number.number-index number c.loop-number.book c.loop-number.editors.items
    c.loop-number.invariant _ 0 c.requires.order c.loop-number-test.true refl within.0 high)

pub loop-number-preserved : goal.loop-number-preserved
loop-number-preserved g c =
    let scripts = scripts_of c.args.editors.now.items in let number = slice_index_or c.args.order.now c.loop-number.number-index 0 in
    let within = c.requires.order.sessions c.loop-number.number-index 0 c.loop-number-test.true in
    let high = subst (λ n. number ≤ n) (length-map scripts (count_by is_shared)) within.1 in
    next_served c.args.book.now.opening scripts c.args.order.now c.loop-number.number-index number c.loop-number.book c.loop-number.editors.items
    c.loop-number.invariant _ 0 c.serve.new.book c.serve.new.self
    c.loop-number-test.true refl within.0 high (c.serve.ensures.script ∙ ap (λ (e : Editor). e.session.script) c.index_mut.ensures.value)
    c.in_ok-serve.ensures.ok
