use Rattle.std.proofs.Common.{◌≡◌, Some, subst, ap, ◌∙◌, Ordering, false}
use Rattle.std.specs.Option.{option_map_or}
use Rattle.std.proofs.lemmas.Result.{IfOk-weaker}
use Rattle.s57_types.specs.declared.name.RecName.{RecName}
use Rattle.row_spec.specs.Rows.{value_of}
use Rattle.finding_laws.specs.Tables.{Covering}
use Rattle.tile_index.specs.Tilings.{covers}
use Rattle.tile_index.proofs.index.tiles_at.Goals as goal

pub returns-in-Some : goal.returns-in-Some
returns-in-Some c =
    let own : Covering = c.in-Some.cover.now in
    let has = subst (λ (order : RecName → RecName → Ordering). Some own ≡ value_of order c.args.kept.now c.args.name)
    (λ i a b. c.orders_are_by_parts.ensures.names a b i) c.in-Some.ensures in
    IfOk-weaker c.tiles.result _ _ (λ tiles is t.
    is t ∙ ap (λ (covering : Covering). covers covering t) c.deref.ensures ∙ ap (λ o. option_map_or (λ covering. covers covering t) o false) has)
    c.tiles.ensures.tiles
