use Rattle.std.proofs.Common.{◌≡◌, ◌∷◌, ◌++◌, [], OnOk, subst, sym, ap, ◌∙◌}
use Rattle.std.proofs.lemmas.Result.{on_ok_weaker}
use Rattle.std.specs.declared.cmp.Ordering.{Ordering}
use Rattle.s57_types.specs.declared.name.Lnam.{Lnam}
use Rattle.cell_spec.specs.Names.{identity_order}
use Rattle.row_spec.specs.Rows.{with_row}
use Rattle.affected_subjects.specs.EditedCells.{KnowsBearers, is_borne_after}
use Rattle.affected_subjects.proofs.Bearers.{with_foid}
use Rattle.affected_subjects.proofs.borne.note.Goals as goal

pub returns-in-Foid-clause-known : goal.returns-in-Foid-clause-known
returns-in-Foid-clause-known g c =
    let l : Lnam = c.in-Foid.foid in
    let edits = c.args.edits.now.edits in
    let store = c.args.store.now in
    let put = subst (λ (order : Lnam → Lnam → Ordering). OnOk c.put.result (c.put.new.self ≡ with_row order c.args.borne.now l c.is_borne_after-stays.result))
    (λ i a b. c.orders_are_by_parts.ensures.identities a b i) c.put.ensures.ok in
    on_ok_weaker c.put.result
    (λ is keys known.
    subst (λ rows. KnowsBearers (keys ++ c.args.key ∷ []) edits store rows)
    (sym (is ∙ ap (with_row identity_order c.args.borne.now l) c.is_borne_after-stays.ensures.borne))
    (subst (λ key. KnowsBearers (keys ++ key ∷ []) edits store (with_row identity_order c.args.borne.now l (is_borne_after edits store l))) (sym c.in-Foid.is)
    (with_foid edits store keys c.args.borne.now known l)))
    put
