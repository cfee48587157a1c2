use Rattle.rayon.proofs.ToStd.{slice-map}
use Rattle.cell_findings.specs.Cut.{block_findings}
use Rattle.cell_findings.proofs.threads.judge_blocks.Goals as goal

pub returns : goal.returns
returns g c =
    let told = c.in_ok-parts.ensures in
    slice-map told.0 c.args.blocks.now told.1 (block_findings c.args.look.now c.args.judged.now.tree) c.in_ok-parts.parts.items told.2
