use Rattle.std.proofs.Common.{◌≡◌, ◌||◌, not, List, [], ◌∷◌, filter, length, map, nat_lt, refl, subst, sym, ap, ◌∙◌, arith}
use Rattle.std.specs.Prelude.{filter_map}
use Rattle.std.specs.Bool.{◌==◌}
use Rattle.std.proofs.lemmas.Bool.Decides.{nat_tests}
use Rattle.std.specs.declared.cmp.Ordering.{Ordering}
use Rattle.s57_types.specs.declared.name.RecName.{RecName}
use Rattle.s57_types.specs.declared.name.Lnam.{Lnam}
use Rattle.cell_spec.specs.Ascending.{ascending}
use Rattle.cell_spec.specs.Edits.{left_by}
use Rattle.cell_spec.specs.Lookup.{bears, name_of}
use Rattle.cell_spec.specs.Names.{name_order}
use Rattle.chain_topo.specs.Listed.{values_at}
use Rattle.edit_answers.proofs.Borne.{borne_by}
use Rattle.edit_answers.proofs.after.EditAnswers.is_borne_after.Goals as goal

some_when : (names : List RecName) → not (length names == 0) ≡ nat_lt 0 (length names)
some_when [] = refl
some_when (n ∷ names) = grind (arith, nat_tests)

pub returns-then-has_unedited : goal.returns-then-has_unedited
returns-then-has_unedited c =
    let edits = c.args.self.now.edits in
    let left = ascending name_order (map name_of (filter (bears c.args.foid) (filter_map left_by edits))) in
    ap (λ b. b || nat_lt 0 (length left)) (sym c.if-has_unedited.true ∙ c.has_unedited.ensures) ∙ borne_by edits c.args.foid c.args.before.now left refl

pub returns : goal.returns
returns c =
    let edits = c.args.self.now.edits in
    let left = c.values_of.result.now in
    let values = subst (λ (order : Lnam → Lnam → Ordering). left ≡ values_at order c.self.inside.bearers c.args.foid)
    (λ i a b. c.orders_are_by_parts.ensures.identities a b i) c.values_of.ensures in
    let own = values ∙ c.self.invariant.bearers_are c.args.foid
    ∙ ap (λ v. ascending name_order (map name_of (filter (bears c.args.foid) (filter_map left_by v.edits)))) c.self.view_is in
    ap not c.is_empty.ensures ∙ some_when left
    ∙ ap (λ b. b || nat_lt 0 (length left)) (sym c.if-has_unedited.false ∙ c.has_unedited.ensures)
    ∙ borne_by edits c.args.foid c.args.before.now left own
