use Rattle.std.proofs.Common.{rules, ◌≡◌, ap, subst, [], ◌∷◌, Some, List, replicate, Option, sym}
use Rattle.atomic_table.specs.Table.{opening}
use Rattle.turn_gate.specs.TicketLockRule.{TicketLockRule, opening_view}
use Rattle.turn_gate.proofs.HandlesKept.{starts}
use Rattle.turn_gate.proofs.lock.Gate.make.Goals as goal

pub new-requires : goal.new-requires
new-requires g c = let C = g.V.Chronicle in let start = C.origin c.of-about.result.value in
    let same : c.of-about.result.value ≡ c.args.value = search rules in let items : c.push.new.self.items ≡ Some c.args.value ∷ [] = search rules in
    subst (λ (slots : List (Option g.row.V.Denot)). TicketLockRule C.origin C.entries C.number start
    (opening (1 ∷ replicate 18 0) slots (opening_view start))) (sym items)
    (starts C.origin C.entries C.number start c.args.value (ap C.origin (sym same)) c.requires.empty)
