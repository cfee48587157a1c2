use Rattle.std.proofs.Common.{ap, ◌∙◌}
use Rattle.sessions.specs.SessionStates.{SessionState}
use Rattle.sessions.proofs.Editors.{ended}
use Rattle.sessions.proofs.editor.Editor.end.Goals as goal

pub returns : goal.returns
returns c = λ cell entries number is all.
    ended cell entries number c.args.self c.advance.new.self c.in_ok-advance.field-0 c.into_transcript.result is c.advance.ensures.served
    c.advance.ensures.script all c.in_ok-advance.ensures.next
    (c.into_transcript.ensures ∙ ap (λ (s : SessionState). s.lines) c.into_session.ensures)
