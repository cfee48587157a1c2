use Rattle.std.proofs.Common.{arith}
use Rattle.measure.proofs.NumberedFeatures.{features-writable}
use Rattle.measure.proofs.lookups.cell_of.Goals as goal

pub returns : goal.returns
returns c =
    features-writable c.args.head c.make.result c.make-2.result c.make-3.result c.of_vec.result c.in_ok-features.features.items c.requires.fits
    c.make.ensures c.make-2.ensures c.make-3.ensures c.of_vec.ensures c.in_ok-features.ensures.distinct c.in_ok-features.ensures.kinds
    (let count = c.in_ok-features.ensures.count in let small = c.requires.few in omega arith) c.in_ok-features.ensures.fit
