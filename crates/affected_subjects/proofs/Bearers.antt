-- What is known of the bearers of touched identifiers.
use Rattle.std.proofs.Common.{◌≡◌, ◌||◌, Bool, true, false, List, [], ◌∷◌, ◌++◌, None, Some, cond, refl, sym, ap, ◌∙◌}
use Rattle.std.specs.Cmp.{Equal-is}
use Rattle.std.specs.List.{list_any}
use Rattle.std.specs.Ordering.{is_eq}
use Rattle.std.proofs.lemmas.List.Folds.{list_any-append}
use Rattle.s57_types.specs.declared.name.Lnam.{Lnam}
use Rattle.s57_types.specs.declared.cell.Cell.{Cell}
use Rattle.cell_spec.specs.declared.edit.Edit.{Edit}
use Rattle.cell_spec.specs.declared.key.Key.{Key}
use Rattle.cell_spec.specs.declared.key.Key.TheVariants.{Foid}
use Rattle.cell_spec.specs.Names.{identity_order, same_key}
use Rattle.cell_spec.proofs.Orders.{exact_identities, total_identities}
use Rattle.row_spec.specs.Rows.{value_of, with_row}
use Rattle.row_spec.proofs.Changes.{value_of-with_row}
use Rattle.edit_answers.proofs.Ties.{identities_flip}
use Rattle.affected_subjects.specs.EditedCells.{KnowsBearers, is_borne_after}

put_by : (hit old was is : Bool) → (hit ≡ true → was ≡ is) → cond hit (Some was) (cond old (Some is) None) ≡ cond (old || (hit || false)) (Some is) None
put_by true true was is same = ap Some (same refl)
put_by true false was is same = ap Some (same refl)
put_by false true was is same = refl
put_by false false was is same = refl

module _ (edits : List Edit) (c : Cell) (keys : List Key) (borne : List (Lnam × Bool)) (known : KnowsBearers keys edits c borne) where
  pub with_foid : (l : Lnam) → KnowsBearers (keys ++ Foid l ∷ []) edits c (with_row identity_order borne l (is_borne_after edits c l))
  with_foid l = record {
    bearers_are = λ k.
        let after : Lnam → Bool = is_borne_after edits c in
        let hit : Bool = is_eq (identity_order k l) in
        value_of-with_row identity_order total_identities borne l k (after l)
        ∙ ap (λ b. cond b (Some (after l)) (value_of identity_order borne k)) (identities_flip l k)
        ∙ ap (λ o. cond hit (Some (after l)) o) (known.bearers_are k)
        ∙ put_by hit (list_any (same_key (Foid k)) keys) (after l) (after k)
        (λ same. ap after (sym (exact_identities k l ((Equal-is (identity_order k l)).0 same))))
        ∙ ap (λ b. cond b (Some (after k)) None) (sym (list_any-append (same_key (Foid k)) keys (Foid l ∷ [])));
  }
