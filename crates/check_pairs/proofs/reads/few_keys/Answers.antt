use Rattle.std.proofs.Common.{◌≡◌, ◌||◌, Bool, map, sym, ap, ◌∙◌}
use Rattle.std.specs.List.{list_any}
use Rattle.cell_spec.specs.declared.key.Key.{Key}
use Rattle.cell_spec.specs.declared.key.Key.TheVariants.{Name}
use Rattle.rule_spec.specs.Reads.{record_keys}
use Rattle.check_pairs.proofs.Keys.{any_named, is_read_set, of_node_first, of_two_edges}
use Rattle.check_pairs.proofs.reads.few_keys.Goals as goal
use Rattle.check_pairs.proofs.reads.few_keys.Goals.{then-is_edge, else-is_edge}

pub returns : goal.returns
returns c = λ cell first second.
    let a = c.args.a.now.name in
    let b = c.args.b.now.name in
    let names = c.names_in_order-names.result in
    let held : (g : Key → Bool) → list_any g (map Name names) ≡ (list_any g (record_keys cell a) || list_any g (record_keys cell b)) = λ g.
    let all = list_any g (map Name names) in
    let x = g (Name c.in-Some-Some.first.0) || g (Name c.in-Some-Some.first.1) in
    let y = g (Name c.in-Some-Some.second.0) || g (Name c.in-Some-Some.second.1) in
    let q = g (Name b) in
    let same = any_named g names ∙ c.names_in_order-names.ensures (λ n. g (Name n)) in
    let other = c.in-Some-Some.ensures'.edge cell second g in
    elim c.if-is_edge.branch [
      | then-is_edge w ↦ of_two_edges all x y (g (Name a)) q _ _ (same ∙ ap (λ n. (x || y) || (g (Name n) || q)) w.last-is)
          (c.in-Some-Some.ensures.edge cell first g) other
      | else-is_edge w ↦ of_node_first all x y q _ _ (same ∙ ap (λ n. (x || y) || (g (Name n) || q)) w.last-is)
          (c.in-Some-Some.ensures.node cell first (sym c.is_edge.ensures ∙ w.if-is_edge.false) g) other
    ] in
    c.of_vec.ensures ∙ c.in_ok-push_rising.ensures c.if-not-branch.false ∙ is_read_set cell a b (map Name names) held
