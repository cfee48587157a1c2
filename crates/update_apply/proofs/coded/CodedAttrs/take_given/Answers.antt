use Rattle.std.proofs.Common.{◌++◌, ◌∷◌, [], sym, ap, ◌∙◌}
use Rattle.update_spec.specs.UpdatedAttributes.{is_delete_value, place_of_code, with_place, without_place}
use Rattle.update_apply.specs.CodedAttributes.{present}
use Rattle.update_apply.proofs.CodedAttributes.{changed, deleted, missing, put_last, replaced, taken}
use Rattle.update_apply.proofs.coded.CodedAttrs.take_given.Goals as goal

pub returns-in-Some-clause-attributes : goal.returns-in-Some-clause-attributes
returns-in-Some-clause-attributes c = let slots = c.args.self.now.slots.items in let given = c.args.given.now in
    ap present c.take_away.ensures.slots
    ∙ taken given.code slots c.in-Some.k c.in-Some.ensures
    ∙ sym (deleted c.args.level slots given
    (ap (is_delete_value c.args.level) (sym c.as_slice.ensures) ∙ sym c.is_delete_value.ensures ∙ c.if-is_delete_value.true))

pub returns-in_default-clause-attributes : goal.returns-in_default-clause-attributes
returns-in_default-clause-attributes c = let slots = c.args.self.now.slots.items in let given = c.args.given.now in
    ap (λ place. without_place place (present slots)) (sym (missing given.code slots c.in_default.ensures))
    ∙ sym (deleted c.args.level slots given
    (ap (is_delete_value c.args.level) (sym c.as_slice.ensures) ∙ sym c.is_delete_value.ensures ∙ c.if-is_delete_value.true))

pub returns-in-Some-place-clause-attributes : goal.returns-in-Some-place-clause-attributes
returns-in-Some-place-clause-attributes c = let slots = c.args.self.now.slots.items in let given = c.args.given.now in
    ap present c.replace.ensures.slots
    ∙ replaced given.code slots c.in-Some-place.k c.in_ok-attr.attr c.in-Some-place.ensures
    ∙ ap (λ attr. with_place (place_of_code given.code (present slots)) attr (present slots)) c.in_ok-attr.ensures
    ∙ sym (changed c.args.level slots given
    (ap (is_delete_value c.args.level) (sym c.as_slice.ensures) ∙ sym c.is_delete_value.ensures ∙ c.if-is_delete_value.false))

pub returns-in_ok-push-in-None-clause-attributes : goal.returns-in_ok-push-in-None-clause-attributes
returns-in_ok-push-in-None-clause-attributes c = let slots = c.args.self.now.slots.items in let given = c.args.given.now in
    ap present c.in_ok-push-in-None.ensures.slots
    ∙ put_last slots c.in_ok-attr.attr
    ∙ ap (λ attr. present slots ++ (attr ∷ [])) c.in_ok-attr.ensures
    ∙ ap (λ place. with_place place given (present slots)) (sym (missing given.code slots c.in-None.ensures))
    ∙ sym (changed c.args.level slots given
    (ap (is_delete_value c.args.level) (sym c.as_slice.ensures) ∙ sym c.is_delete_value.ensures ∙ c.if-is_delete_value.false))
