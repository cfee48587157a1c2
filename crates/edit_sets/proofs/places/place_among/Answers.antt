use Rattle.std.proofs.Common.{Err, get_or, sym, subst, ◌∙◌}
use Rattle.std.specs.declared.cmp.Ordering.{Ordering}
use Rattle.std.specs.List.Sorted.{IsBinarySearchResult}
use Rattle.s57_types.specs.declared.name.RecName.{RecName}
use Rattle.edit_sets.proofs.NotedPlaces.{none_there, one_there}
use Rattle.edit_sets.proofs.places.place_among.Goals as goal

pub returns-in-Ok : goal.returns-in-Ok
returns-in-Ok c =
    one_there c.args.names.now c.args.name c.in-Ok.place c.in-Ok.ensures.bound
    (λ d. sym (c.orders_are_by_parts.ensures.names (get_or c.args.names.now c.in-Ok.place d) c.args.name) ∙ c.in-Ok.ensures.ok d)

pub returns-in-Err : goal.returns-in-Err
returns-in-Err c =
    let point = subst (λ (order : RecName → RecName → Ordering). IsBinarySearchResult (λ (n : RecName). order n c.args.name) c.args.names.now
    (Err c.in-Err.field-0)) (λ i a b. c.orders_are_by_parts.ensures.names a b i) c.in-Err.ensures.position in
    none_there c.args.names.now c.args.name c.in-Err.field-0 c.requires point
