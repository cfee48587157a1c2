use Rattle.std.proofs.Common.{◌||◌, sym, ◌∙◌, subst}
use Rattle.std.specs.Prelude.{All, IsTrue}
use Rattle.rule_spec.specs.Affected.{is_single}
use Rattle.rule_spec.specs.Findings.{is_subject}
use Rattle.cell_bench.proofs.SingleReads.{singles_there}
use Rattle.cell_bench.proofs.load.reads_of.Goals as goal

pub rows_read-requires : goal.rows_read-requires
rows_read-requires g c =
    let cell = c.args.cell.now in
    rw (c.in_ok-look.ensures)
    (subst (All (λ s. IsTrue (is_single s || is_subject cell s))) (sym (c.deref.ensures.value ∙ c.in_ok-subjects.ensures)) (singles_there cell c.requires))
