use Rattle.std.proofs.Common.{◌||◌, ap}
use Rattle.rule_spec.specs.Findings.{is_subject}
use Rattle.measure.proofs.squares.push_reads.Goals as goal

pub row_of-requires : goal.row_of-requires
row_of-requires g c = ap (λ b. b || is_subject c.args.store.now c.args.subject) c.requires
