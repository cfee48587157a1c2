use Rattle.std.proofs.Common.{◌≡◌, count_by}
use Rattle.text_spec.specs.ScriptLines.{is_shared}
use Rattle.workroom.specs.Desks.{IsSameDesk}
use Rattle.room_run.specs.Compilers.{IsAtDesk}
use Rattle.room_run.proofs.compiler.serve.Given as goal

abbrev pub invariant-loop-served : goal.invariant-loop-served
invariant-loop-served g l = record {
  same : IsSameDesk l.initial.compiler.desk l.compiler.desk;
  script : l.compiler.session.script ≡ l.initial.compiler.session.script;
  at_desk : IsAtDesk l.compiler.desk l.compiler.session;
  done : count_by is_shared l.compiler.session.done ≡ l.served;
}
