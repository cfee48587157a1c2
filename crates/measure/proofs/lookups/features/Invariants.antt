use Rattle.std.proofs.Common.{◌≡◌, ◌<◌, map, vec_len}
use Rattle.std.specs.List.{All, IsDistinct}
use Rattle.s57_types.specs.declared.name.Kind.TheVariants.{Fe}
use Rattle.cell_spec.specs.Lookup.{name_of}
use Rattle.cell_spec.specs.Names.{same_name}
use Rattle.cell_spec.specs.Writable.{AreOfKind}
use Rattle.chain_topo.proofs.SmallRecords.{FitsAnywhere}
use Rattle.measure.proofs.lookups.features.Given as goal

-- the features so far have the numbers below the next
abbrev pub invariant-loop-id : goal.invariant-loop-id
invariant-loop-id l = record {
  count : vec_len l.features ≡ l.id;
  distinct : IsDistinct same_name (map name_of l.features.items);
  kinds : AreOfKind Fe l.features.items;
  below : All (λ r. (name_of r).id < l.id) l.features.items;
  fit : All FitsAnywhere l.features.items;
}
