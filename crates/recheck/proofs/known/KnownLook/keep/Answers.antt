use Rattle.std.specs.Prelude.{Some}
use Rattle.std.proofs.lemmas.List.Elements.{All-set}
use Rattle.recheck.specs.Known.{IsFound}
use Rattle.recheck.proofs.known.KnownLook.keep.Goals as goal

pub invariant_of-self : goal.invariant_of-self
invariant_of-self g c =
    let cell = g.B.Look.cell c.self.inside.base.now in
    All-set (IsFound cell) c.self.inside.found c.place_of.result (Some record { name = c.args.name; «record» = c.get-record.result })
    c.get-record.ensures.found c.self.invariant
