use Rattle.std.proofs.Common.{is_eq, not, rules}
use Rattle.std.proofs.lemmas.Fn.{filter_same}
use Rattle.s57_types.specs.declared.name.RecName.{RecName}
use Rattle.cell_spec.specs.Names.{name_order}
use Rattle.tile_index.proofs.mates.without.Goals as goal

pub returns : goal.returns
returns c = filter_same _ (λ (m : RecName). not (is_eq (name_order m c.args.name))) _ (λ m b f' k. search rules) _ _ c.retain.ensures.filtered
