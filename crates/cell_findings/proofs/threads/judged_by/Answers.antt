use Rattle.std.proofs.Common.{◌∙◌, ap, subst, sym}
use Rattle.std.specs.List.{All, flat_map}
use Rattle.cell_findings.specs.Cut.{AreSubjects, block_findings}
use Rattle.cell_findings.proofs.Cutting.{blocks_are, blocks_tell, parts_of_map}
use Rattle.cell_findings.proofs.threads.judged_by.Goals as goal

pub judge_blocks-requires-clause-subjects : goal.judge_blocks-requires-clause-subjects
judge_blocks-requires-clause-subjects g c = λ κs lives.
    let judged = c.in_ok-judged.judged in
    let blocks = c.in_ok-blocks.blocks.items in
    subst (All (AreSubjects c.in_ok-look.look judged.tree)) (sym c.deref.ensures.value)
    (subst (λ cell. All (AreSubjects cell judged.tree) blocks) (sym c.in_ok-look.ensures)
    (blocks_are c.args.cell.now c.requires c.apart_pairs_are_clean.ensures judged c.in_ok-judged.ensures.judged blocks c.in_ok-blocks.ensures))

pub returns : goal.returns
returns g c =
    let judged = c.in_ok-judged.judged in
    let blocks = c.in_ok-blocks.blocks.items in
    ap (flat_map (λ part. part)) c.in_ok-parts.ensures
    ∙ parts_of_map (block_findings c.in_ok-look.look judged.tree) c.deref.result.now
    ∙ (λ i. flat_map (block_findings (c.in_ok-look.ensures i) judged.tree) (c.deref.ensures.value i))
    ∙ blocks_tell c.args.cell.now c.requires c.apart_pairs_are_clean.ensures judged c.in_ok-judged.ensures.judged blocks c.in_ok-blocks.ensures
