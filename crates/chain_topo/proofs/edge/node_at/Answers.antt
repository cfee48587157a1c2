use Rattle.std.proofs.Common.{◌≡◌, ◌==◌, Bool, count_by, option_map, sym, ap, ◌∙◌}
use Rattle.s57_types.specs.declared.record.End.{End}
use Rattle.chain_topo.proofs.Only.{only_counted, only_found}
use Rattle.chain_topo.proofs.edge.node_at.Goals as goal

pub returns-then-count_at-ne1 : goal.returns-then-count_at-ne1
returns-then-count_at-ne1 c =
    let test : End → Bool = λ e. e.topi == c.args.topi in
    sym (ap (option_map (λ (e : End). e.to)) (only_counted test c.args.edge.now.ends
    (λ one. c.if-count_at-ne1.true (rw (c.count_at.ensures, c.as_slice-ends.ensures) one))))

pub returns : goal.returns
returns c =
    let test : End → Bool = λ e. e.topi == c.args.topi in
    let one : count_by test c.args.edge.now.ends ≡ 1 = rw (← c.as_slice-ends.ensures, ← c.count_at.ensures) c.if-count_at-ne1.false in
    c.first_at.ensures ∙ ap (option_map (λ (e : End). e.to)) (rw c.as_slice-ends.ensures (sym (only_found test c.args.edge.now.ends one)))
