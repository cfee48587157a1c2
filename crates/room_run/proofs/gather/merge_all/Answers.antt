use Rattle.std.proofs.Common.{refl, sym, ap, ◌∙◌, subst, rules, List}
use Rattle.std.proofs.lemmas.List.{map-id}
use Rattle.std.proofs.lemmas.Iterator.Adapters.{YieldsList-from_vec}
use Rattle.std.proofs.lemmas.Iterator.Consumers.{YieldsList-end}
use Rattle.workroom.specs.Desks.{DeskState}
use Rattle.room_run.specs.Rooms.{KeepsDesks, outcome_of}
use Rattle.room_run.specs.declared.compiler.Compiler.{Compiler}
use Rattle.room_run.proofs.Merged.{keeps_more, outcomes_more}
use Rattle.room_run.proofs.gather.merge_all.Goals as goal

pub loop-compiler-preserved : goal.loop-compiler-preserved
loop-compiler-preserved c = record {
  room = ap (λ (d : DeskState). d.room) c.merge.ensures.merged ∙ c.loop-compiler.invariant.room;
  keeps = keeps_more c.args.into.now c.loop-compiler.into c.merge.new.into c.loop-compiler.yielded c.in-Some.compiler
      c.loop-compiler.invariant.keeps c.merge.ensures.merged c.merge.ensures.begins c.merge.ensures.from_begins;
  outcomes = c.in_ok-push.ensures.items ∙ outcomes_more c.loop-compiler.outcomes.items c.loop-compiler.yielded c.in-Some.compiler
      (outcome_of c.in-Some.compiler) c.loop-compiler.invariant.outcomes refl;
}

pub returns-clause-keeps : goal.returns-clause-keeps
returns-clause-keeps c =
    let whole = YieldsList-end (YieldsList-from_vec c.args.compilers.items (search rules) (search rules)) c.loop-compiler.yielded
    c.loop-compiler.compiler-iterator c.loop-compiler.yielded_by c.next.result c.next.new.self c.in-None.is c.next.ensures.steps in
    subst (λ (ks : List Compiler). KeepsDesks c.args.into.now ks c.loop-compiler.into)
    (sym (map-id c.loop-compiler.yielded) ∙ whole.0) c.loop-compiler.invariant.keeps
