use Rattle.std.proofs.Common.{◌≡◌, ◌++◌, take}
use Rattle.std.specs.List.{flat_map}
use Rattle.cell_spec.specs.Lookup.{identities_of}
use Rattle.cell_findings.proofs.names.push_identities.Given as goal

abbrev pub invariant-loop-rec : goal.invariant-loop-rec
invariant-loop-rec l = l.identities.items ≡ l.initial.identities.items ++ flat_map identities_of (take l.rec-index l.recs)
