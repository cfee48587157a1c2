use Rattle.std.proofs.Common.{◌≡◌, IfOk, Option, Some, sym, subst}
use Rattle.s57_types.specs.declared.name.RecName.{RecName}
use Rattle.rule_spec.specs.Records.{edge_named}
use Rattle.check_area.specs.declared.sweep.LineSweep.{LineSweep}
use Rattle.check_area.specs.Lines.{sweep_named}
use Rattle.check_area.proofs.Lines.{asked_by_number, asked_edge, edge_by_number, no_edge_swept}
use Rattle.check_area.proofs.area.sweep_at.Goals as goal

pub returns-in_default-clause-sweep : goal.returns-in_default-clause-sweep
returns-in_default-clause-sweep g c = λ cell keys near asks held.
    sym (no_edge_swept cell c.args.name (sym (c.in_default.ensures cell keys near asks.name)))

pub returns-in-Ve-clause-sweep : goal.returns-in-Ve-clause-sweep
returns-in-Ve-clause-sweep g c = λ cell keys near asks held.
    let name = c.args.name in
    let edge = c.in-Some.edge.now in
    let found : edge_named cell name ≡ Some edge = sym (c.in-Some.ensures cell keys near asks.name) in
    let asked = asked_by_number cell keys name edge c.in-Ve.is (asked_edge cell keys name edge asks found) in
    subst (λ (n : RecName). IfOk c.kept_sweep.result (λ sweep. sweep ≡ sweep_named cell n)) (edge_by_number name c.in-Ve.is)
    (c.kept_sweep.ensures.sweep cell keys near asked held)

pub returns-in-Ve-clause-known : goal.returns-in-Ve-clause-known
returns-in-Ve-clause-known g c = λ cell keys near asks held.
    let name = c.args.name in
    let edge = c.in-Some.edge.now in
    let found : edge_named cell name ≡ Some edge = sym (c.in-Some.ensures cell keys near asks.name) in
    c.kept_sweep.ensures.known cell keys near (asked_by_number cell keys name edge c.in-Ve.is (asked_edge cell keys name edge asks found)) held

pub returns-in_default-kind-clause-sweep : goal.returns-in_default-kind-clause-sweep
returns-in_default-kind-clause-sweep g c = λ cell keys near asks held.
    let name = c.args.name in
    let edge = c.in-Some.edge.now in
    let found : edge_named cell name ≡ Some edge = sym (c.in-Some.ensures cell keys near asks.name) in
    let asked = asked_edge cell keys name edge asks found in
    subst (λ (line : Option LineSweep). IfOk c.sweep_of_edge.result (λ sweep. sweep ≡ line)) (sym asked.swept)
    (c.sweep_of_edge.ensures cell keys near asked.ends)
