use Rattle.history_spec.specs.Sessions.{ordered_requests}
use Rattle.history_spec.specs.Steps.{opening}
use Rattle.run_laws.proofs.Causes.{each_answered}
use Rattle.run_laws.proofs.InOrder.{each_in_order, sessions_in_order}
use Rattle.run_laws.proofs.Left.{run_leaves}
use Rattle.run_laws.proofs.law.runs_take_their_course.Goals as goal

pub returns : goal.returns
returns f = λ c scripts order is_order. record {
  in_order = sessions_in_order scripts order is_order;
  each = each_in_order scripts order is_order;
  answered = each_answered (opening c) (ordered_requests scripts order);
  left = run_leaves c (ordered_requests scripts order);
}
