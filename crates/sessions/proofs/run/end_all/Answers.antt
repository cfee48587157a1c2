use Rattle.std.proofs.Common.{◌++◌, ◌∷◌, [], List, sym, ◌∙◌, subst, rules}
use Rattle.std.proofs.lemmas.List.{map-id}
use Rattle.std.proofs.lemmas.Iterator.Adapters.{YieldsList-from_vec}
use Rattle.std.proofs.lemmas.Iterator.Consumers.{YieldsList-end, YieldsList-turn}
use Rattle.sessions.specs.Replays.{AreEndedAs, scripts_of}
use Rattle.sessions.specs.declared.editor.Editor.{Editor}
use Rattle.sessions.proofs.Numbered.{lines_more}
use Rattle.sessions.proofs.run.end_all.Goals as goal

pub loop-editor-preserved : goal.loop-editor-preserved
loop-editor-preserved c = λ cell entries ended.
    let turn = YieldsList-turn (YieldsList-from_vec c.args.editors.items (search rules) (search rules)) c.loop-editor.yielded
    c.loop-editor.editor-iterator c.loop-editor.yielded_by c.next.result c.next.new.self c.in-Some.editor c.in-Some.is c.next.ensures.steps in
    subst (AreEndedAs cell entries (scripts_of (c.loop-editor.yielded ++ c.in-Some.editor ∷ []))) (sym c.in_ok-push.ensures.items)
    (lines_more cell entries c.args.editors.items c.loop-editor.yielded c.in-Some.editor c.loop-editor.transcripts.items
    c.in_ok-end.field-0 turn.0 turn.1 ended (c.loop-editor.invariant cell entries ended)
    (λ number is all. c.in_ok-end.ensures cell entries number is all))

pub returns : goal.returns
returns c = λ cell entries ended.
    let whole = YieldsList-end (YieldsList-from_vec c.args.editors.items (search rules) (search rules)) c.loop-editor.yielded
    c.loop-editor.editor-iterator c.loop-editor.yielded_by c.next.result c.next.new.self c.in-None.is c.next.ensures.steps in
    subst (λ (editors : List Editor). AreEndedAs cell entries (scripts_of editors) c.loop-editor.transcripts.items)
    (sym (map-id c.loop-editor.yielded) ∙ whole.0) (c.loop-editor.invariant cell entries ended)
