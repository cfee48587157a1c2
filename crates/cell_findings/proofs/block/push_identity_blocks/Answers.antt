use Rattle.std.proofs.Common.{refl}
use Rattle.cell_spec.specs.declared.key.Subject.TheVariants.{Ident}
use Rattle.cell_findings.specs.declared.block.Block.TheVariants.{Identities}
use Rattle.cell_findings.proofs.Cutting.{mapped_last, mapped_more}
use Rattle.cell_findings.proofs.block.push_identity_blocks.Goals as goal

pub loop-rest-preserved : goal.loop-rest-preserved
loop-rest-preserved c = λ tree. mapped_more tree Ident c.loop-rest.cut.items _ (Identities c.split_at.result.0) c.split_at.result.0.now c.split_at.result.1.now
    c.loop-rest.rest.now c.min.result _ c.split_at.ensures.front c.split_at.ensures.back c.in_ok-push.ensures.items refl (c.loop-rest.invariant tree)

pub returns : goal.returns
returns c = λ tree. mapped_last Ident c.loop-rest.rest.now _ _ c.loop-rest-test.ensures (c.loop-rest.invariant tree)
