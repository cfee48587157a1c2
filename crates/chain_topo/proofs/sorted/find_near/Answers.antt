use Rattle.std.proofs.Common.{◌≡◌, true, get_or, ap, sym, ◌∙◌}
use Rattle.std.specs.Borrow.{Bor}
use Rattle.std.specs.declared.cmp.Ordering.TheVariants.{Equal}
use Rattle.std.proofs.lemmas.Cmp.{tied_itself}
use Rattle.s57_types.specs.declared.name.RecName.{RecName}
use Rattle.s57_types.specs.declared.record.Rec.{Rec}
use Rattle.cell_spec.specs.Lookup.{name_of}
use Rattle.cell_spec.specs.Names.{name_order, same_name}
use Rattle.cell_spec.proofs.Orders.{one_when_same, total_names}
use Rattle.chain_topo.proofs.Named.{found-there}
use Rattle.chain_topo.proofs.sorted.find_near.Goals as goal

pub returns-then-has_name : goal.returns-then-has_name
returns-then-has_name c =
    let records = c.args.records.now in
    let name = c.args.name in
    let found = c.in-Some.rec.now in
    let at = c.in-Some.ensures.lookup.1 in
    let same : same_name name (name_of found.now) ≡ true = sym c.has_name.ensures ∙ c.if-has_name.true in
    let ties : name_order (name_of (get_or records c.args.place found).now) name ≡ Equal =
    ap (λ (r : Bor Rec). name_order (name_of r.now) name) (sym at)
    ∙ ap (λ (n : RecName). name_order n name) (sym (one_when_same name (name_of found.now) same))
    ∙ tied_itself total_names name in
    sym (found-there name records c.args.place found c.requires.distinct c.in-Some.ensures.lookup.3.0 at ties)
