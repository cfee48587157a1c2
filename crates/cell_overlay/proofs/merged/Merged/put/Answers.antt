use Rattle.std.proofs.Common.{◌≡◌, ◌∷◌, ◌++◌, [], OnOk, subst, sym, ap, ◌∙◌}
use Rattle.std.proofs.lemmas.Result.{on_ok_weaker}
use Rattle.std.specs.declared.cmp.Ordering.{Ordering}
use Rattle.s57_types.specs.declared.name.RecName.{RecName}
use Rattle.s57_types.specs.declared.name.Lnam.{Lnam}
use Rattle.cell_spec.specs.Lookup.{lookup_identity, lookup_pointers}
use Rattle.cell_spec.specs.Names.{identity_order, name_order}
use Rattle.row_spec.specs.Rows.{with_row}
use Rattle.answer_laws.specs.EditedAnswers.{bearers_after, pointers_after}
use Rattle.cell_overlay.specs.Laid.{AreMerged}
use Rattle.cell_overlay.proofs.Laid.{with_bearers, with_pointers}
use Rattle.cell_overlay.proofs.merged.Merged.put.Goals as goal

pub returns-in_ok-make-in-Refs-clause-merged : goal.returns-in_ok-make-in-Refs-clause-merged
returns-in_ok-make-in-Refs-clause-merged g c =
    let n : RecName = c.in-Refs.name in
    let edits = c.args.edits.now.edits in
    let value = c.in_ok-make-in-Refs.ensures ∙ c.in_ok-refs-in-Refs.ensures ∙ ap (pointers_after edits n) c.refs.ensures.found in
    let put = subst (λ (order : RecName → RecName → Ordering). OnOk c.put.result
    (c.put.new.self ≡ with_row order c.args.self.now.pointers n c.in_ok-make-in-Refs.field-0))
    (λ i a b. c.orders_are_by_parts.ensures.names a b i) c.put.ensures.ok in
    on_ok_weaker c.put.result
    (λ is keys merged.
    subst (λ rows. AreMerged (keys ++ c.args.key ∷ []) edits (g.B.Look.cell c.args.base.now) rows c.args.self.now.bearers)
    (sym (is ∙ ap (with_row name_order c.args.self.now.pointers n) value))
    (subst (λ key. AreMerged (keys ++ key ∷ []) edits (g.B.Look.cell c.args.base.now) (with_row name_order c.args.self.now.pointers n
    (pointers_after edits n (lookup_pointers (g.B.Look.cell c.args.base.now) n))) c.args.self.now.bearers) (sym c.in-Refs.is)
    (with_pointers edits (g.B.Look.cell c.args.base.now) keys c.args.self.now.pointers c.args.self.now.bearers merged n)))
    put

pub returns-in_ok-make-in-Foid-clause-merged : goal.returns-in_ok-make-in-Foid-clause-merged
returns-in_ok-make-in-Foid-clause-merged g c =
    let l : Lnam = c.in-Foid.foid in
    let edits = c.args.edits.now.edits in
    let value = c.in_ok-make-in-Foid.ensures ∙ c.in_ok-names-in-Foid.ensures ∙ ap (bearers_after edits l) c.bearers.ensures.found in
    let put = subst (λ (order : Lnam → Lnam → Ordering). OnOk c.put-in-Foid.result
    (c.put-in-Foid.new.self ≡ with_row order c.args.self.now.bearers l c.in_ok-make-in-Foid.field-0))
    (λ i a b. c.orders_are_by_parts.ensures.identities a b i) c.put-in-Foid.ensures.ok in
    on_ok_weaker c.put-in-Foid.result
    (λ is keys merged.
    subst (λ rows. AreMerged (keys ++ c.args.key ∷ []) edits (g.B.Look.cell c.args.base.now) c.args.self.now.pointers rows)
    (sym (is ∙ ap (with_row identity_order c.args.self.now.bearers l) value))
    (subst (λ key. AreMerged (keys ++ key ∷ []) edits (g.B.Look.cell c.args.base.now) c.args.self.now.pointers
    (with_row identity_order c.args.self.now.bearers l (bearers_after edits l (lookup_identity (g.B.Look.cell c.args.base.now) l)))) (sym c.in-Foid.is)
    (with_bearers edits (g.B.Look.cell c.args.base.now) keys c.args.self.now.pointers c.args.self.now.bearers merged l)))
    put
