use Rattle.std.proofs.Common.{◌≡◌, ◌++◌, map, take}
use Rattle.s57_types.specs.declared.record.Partner.{Partner}
use Rattle.cell_spec.specs.declared.key.Key.TheVariants.{Foid}
use Rattle.check_record.proofs.reads.push_partner_keys.Given as goal

abbrev pub invariant-loop-partner : goal.invariant-loop-partner
invariant-loop-partner l = l.keys.items ≡ l.initial.keys.items ++ map (λ (p : Partner). Foid p.to) (take l.partner-index l.feature.partners)
