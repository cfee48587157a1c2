use Rattle.std.proofs.Common.{sym, subst}
use Rattle.file_spec.specs.RoundTrip.{RecordHasForms}
use Rattle.file_spec.proofs.types.RecTyped.has_its_types.Goals as goal

pub returns-in-F : goal.returns-in-F
returns-in-F c nall = subst (RecordHasForms nall) (sym c.in-F.is) (c.feature_has_its_types.ensures nall)
