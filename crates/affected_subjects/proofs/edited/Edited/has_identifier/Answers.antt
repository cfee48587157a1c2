use Rattle.std.proofs.Common.{◌≡◌, Bool, Option, None, Some, subst, ap, ◌∙◌}
use Rattle.std.specs.declared.cmp.Ordering.{Ordering}
use Rattle.s57_types.specs.declared.name.Lnam.{Lnam}
use Rattle.cell_spec.specs.declared.key.Subject.TheVariants.{Ident}
use Rattle.rule_spec.specs.Findings.{is_subject}
use Rattle.row_spec.specs.Rows.{value_of}
use Rattle.affected_subjects.proofs.Subjects.{kept_ident, noted}
use Rattle.affected_subjects.proofs.edited.Edited.has_identifier.Goals as goal

pub returns-in-Some : goal.returns-in-Some
returns-in-Some c =
    let known : Bool = c.in-Some.known.now in
    let has = subst (λ (order : Lnam → Lnam → Ordering). Some known ≡ value_of order c.self.inside.borne c.args.foid)
    (λ i a b. c.orders_are_by_parts.ensures.identities a b i) c.in-Some.ensures in
    noted c.self.inside.store.now c.self.inside.edits.now.edits c.self.inside.map.now c.self.inside.borne c.self.invariant
    c.args.foid c.edited_answers.ensures known has
    ∙ ap (λ cell. is_subject cell (Ident c.args.foid)) c.self.view_is

pub returns-in-None : goal.returns-in-None
returns-in-None c =
    let none : Option Bool = None in
    let has = subst (λ (order : Lnam → Lnam → Ordering). none ≡ value_of order c.self.inside.borne c.args.foid)
    (λ i a b. c.orders_are_by_parts.ensures.identities a b i) c.in-None.ensures in
    c.has_row.ensures
    ∙ kept_ident c.self.inside.store.now c.self.inside.edits.now.edits c.self.inside.map.now c.self.inside.borne c.self.invariant
    c.args.foid c.untouched_keys_keep_answers.ensures has
    ∙ ap (λ cell. is_subject cell (Ident c.args.foid)) c.self.view_is
