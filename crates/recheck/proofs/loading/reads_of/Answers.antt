use Rattle.std.proofs.Common.{◌||◌, sym, ◌∙◌, subst}
use Rattle.std.specs.Prelude.{All, IsTrue}
use Rattle.rule_spec.specs.Affected.{is_single}
use Rattle.rule_spec.specs.Findings.{is_subject}
use Rattle.cell_bench.proofs.SingleReads.{singles_there}
use Rattle.recheck.proofs.loading.reads_of.Goals as goal

pub rows_read-requires-clause-subjects : goal.rows_read-requires-clause-subjects
rows_read-requires-clause-subjects g c κs within =
    let cell = c.args.cell.now in
    rw (c.in_ok-look.ensures)
    (subst (All (λ s. IsTrue (is_single s || is_subject cell s))) (sym (c.deref.ensures.value ∙ c.in_ok-subjects.ensures)) (singles_there cell c.requires))
