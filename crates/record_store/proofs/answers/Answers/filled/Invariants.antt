use Rattle.std.proofs.Common.{◌≡◌, take}
use Rattle.std.specs.Prelude.{flat_map}
use Rattle.cell_spec.specs.Names.{identity_order, name_order}
use Rattle.chain_topo.specs.Listed.{values_at}
use Rattle.record_store.specs.Stores.{names_row, refs_row}
use Rattle.record_store.proofs.answers.Answers.filled.Given as goal

abbrev pub invariant-loop-key : goal.invariant-loop-key
invariant-loop-key l =
    (l.lists.refs.items ≡ flat_map (refs_row (values_at name_order l.pointers)) (take l.key-index l.keys))
    × (l.lists.names.items ≡ flat_map (names_row (values_at identity_order l.bearers)) (take l.key-index l.keys))
