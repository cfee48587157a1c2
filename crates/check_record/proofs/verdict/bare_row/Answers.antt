use Rattle.std.proofs.Common.{◌∙◌, refl, sym, ap}
use Rattle.cell_spec.specs.Ascending.{ascending}
use Rattle.cell_spec.specs.Names.{key_order}
use Rattle.check_record.proofs.ReadSets.{absent_set, findings_absent, findings_at_head, head_set}
use Rattle.check_record.proofs.verdict.bare_row.Goals as goal

pub returns-clause-absent : goal.returns-clause-absent
returns-clause-absent c = λ cell absent. record {
  subject = refl;
  findings = c.make.ensures ∙ sym (findings_absent cell c.args.name absent);
  reads = c.ascending_keys.ensures ∙ ap (ascending key_order) c.in_ok-keys.ensures.items ∙ sym (absent_set cell c.args.name absent);
}

pub returns-clause-head : goal.returns-clause-head
returns-clause-head c = λ cell head found. record {
  subject = refl;
  findings = c.make.ensures ∙ sym (findings_at_head cell c.args.name head found);
  reads = c.ascending_keys.ensures ∙ ap (ascending key_order) c.in_ok-keys.ensures.items ∙ sym (head_set cell c.args.name head found);
}
