use Rattle.std.proofs.Common.{ap, ◌∙◌, subst}
use Rattle.sessions.specs.SessionStates.{IsNext, SessionState}
use Rattle.sessions.proofs.Editors.{advanced, both_ok, has_next, served_once}
use Rattle.sessions.proofs.editor.Editor.serve.Goals as goal

pub unreachable-requires : goal.unreachable-requires
unreachable-requires g c =
    let s = c.advance.new.self in
    has_next c.args.book.now.opening c.args.book.now.entries c.args.number c.args.self.now s c.requires.editor c.advance.ensures.served
    c.advance.ensures.script c.requires.left
    (subst (IsNext s) c.in_default.is c.in_ok-shared.ensures.next)

pub returns-clause-ok : goal.returns-clause-ok
returns-clause-ok g c =
    let book = c.args.book.now in
    let e = c.args.self.now in
    let s = c.advance.new.self in
    let told = c.in_ok-told.ensures in
    let after = c.follow.ensures in
    both_ok c.follow.result after.base after.bench
    (λ base bench. served_once book c.ask.new.book c.args.number e.base e.bench s c.in-Some.shared c.in_ok-reply.reply c.follow.new.self c.in_ok-reply.ensures
    (advanced book.opening book.entries c.args.number e s c.requires.editor c.advance.ensures.served)
    c.requires.editor.within c.requires.editor.copy
    (ap (λ (t : SessionState). t.done) after.session ∙ told.done)
    (ap (λ (t : SessionState). t.draft) after.session ∙ told.draft)
    (ap (λ (t : SessionState). t.lines) after.session ∙ told.lines)
    base bench)
