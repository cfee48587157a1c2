use Rattle.std.proofs.Common.{◌≡◌, true, ap}
use Rattle.std.specs.Prelude.{◌==◌}
use Rattle.cell_spec.specs.Names.{kind_rank}
use Rattle.near_records.proofs.ReadKeys.{own_ends_are_read}
use Rattle.rule_spec.specs.Records.{is_edge_name}
use Rattle.check_record.proofs.vector.vector_findings.Goals as goal

pub returns-in-Ve : goal.returns-in-Ve
returns-in-Ve g c = λ cell name keys near is_set found.
    let vector = c.args.vector.now in
    let kind : is_edge_name vector.name ≡ true = ap (λ k. kind_rank k == 2) c.in-Ve.is in
    c.edge_findings.ensures cell keys (near kind) (own_ends_are_read cell name vector keys is_set found kind)

pub returns-in-Vi : goal.returns-in-Vi
returns-in-Vi g c = λ cell name keys near is_set found. c.node_findings.ensures cell

pub returns-in-Fe : goal.returns-in-Fe
returns-in-Fe g c = λ cell name keys near is_set found. c.shape_findings.ensures cell
