use Rattle.std.proofs.Common.{ap, ◌∙◌}
use Rattle.std.proofs.lemmas.Result.{on_ok_weaker}
use Rattle.answer_laws.specs.EditedAnswers.{bearers_after, pointers_after}
use Rattle.record_store.proofs.Put.{bearers_put, pointers_put}
use Rattle.record_store.proofs.answers.Answers.update.Goals as goal

pub returns-in_ok-refs-in-Refs : goal.returns-in_ok-refs-in-Refs
returns-in_ok-refs-in-Refs c =
    let value = c.in_ok-refs-in-Refs.ensures ∙ ap (pointers_after c.args.edits.now.edits c.in-Refs.name) c.refs.ensures in
    on_ok_weaker c.put_refs.result (λ is keys put. pointers_put keys _ _ _ c.args.self.now.pointers _ c.args.self.now.bearers put c.in-Refs.name c.args.key
    c.in-Refs.is _ value c.put_refs.new.self.pointers c.put_refs.new.self.bearers c.put_refs.ensures.bearers is) c.put_refs.ensures.pointers

pub returns-in_ok-names-in-Foid : goal.returns-in_ok-names-in-Foid
returns-in_ok-names-in-Foid c =
    let value = c.in_ok-names-in-Foid.ensures ∙ ap (bearers_after c.args.edits.now.edits c.in-Foid.foid) c.bearers.ensures in
    on_ok_weaker c.put_bearers.result (λ is keys put. bearers_put keys _ _ _ c.args.self.now.pointers _ c.args.self.now.bearers put c.in-Foid.foid c.args.key
    c.in-Foid.is _ value c.put_bearers.new.self.bearers c.put_bearers.new.self.pointers c.put_bearers.ensures.pointers is) c.put_bearers.ensures.bearers
