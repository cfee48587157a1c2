use Rattle.std.proofs.Common.{◌≡◌, ◌++◌, map, take}
use Rattle.cell_spec.specs.declared.key.Key.TheVariants.{Name}
use Rattle.check_record.proofs.reads.push_name_keys.Given as goal

abbrev pub invariant-loop-name : goal.invariant-loop-name
invariant-loop-name l = l.keys.items ≡ l.initial.keys.items ++ map Name (take l.name-index l.names)
