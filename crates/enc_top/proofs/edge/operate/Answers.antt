use Rattle.enc_top.specs.Operations.{operation_refusal}
use Rattle.enc_top.proofs.EdgeWork.{refused_status}
use Rattle.enc_top.proofs.edge.operate.Goals as goal

pub returns-in-Err-clause-judged : goal.returns-in-Err-clause-judged
returns-in-Err-clause-judged g c =
    refused_status c.args.bench c.args.operation c.status_of.result
    (c.status_of.ensures.status (operation_refusal c.args.bench c.args.operation) c.in-Err.ensures)
