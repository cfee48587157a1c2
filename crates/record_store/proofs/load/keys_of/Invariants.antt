use Rattle.std.proofs.Common.{◌≡◌, flat_map, map, take}
use Rattle.std.specs.Borrow.{Bor}
use Rattle.s57_types.specs.declared.record.Rec.{Rec}
use Rattle.cell_spec.specs.Edits.{keys_answered_by}
use Rattle.record_store.proofs.load.keys_of.Given as goal

abbrev pub invariant-loop-rec : goal.invariant-loop-rec
invariant-loop-rec l = l.keys.items ≡ flat_map keys_answered_by (map (λ (r : Bor Rec). r.now) (take l.rec-index l.records))
