use Rattle.std.proofs.Common.{◌≡◌, length, map, refl, rules, sym, ap, ◌∙◌, string_bytes, arith}
use Rattle.enc_top.specs.Words.{drill_among, drill_form, drill_of, number_up_to}
use Rattle.enc_top.proofs.FormWords.{fewer_drilled, more_drilled, two_drilled}
use Rattle.enc_top.proofs.GeneratedWork.{asked_drill}
use Rattle.enc_top.proofs.made.drill.Goals as goal
use Rattle.enc_top.proofs.made.drill.Goals.{in_default-via-then-others-lt2, in_default-via-else-others-lt2+else-others-lt3}

pub returns-in_default : goal.returns-in_default
returns-in_default g c = λ files count.
    elim c.in_default.branch [
      | in_default-via-then-others-lt2 w ↦ (fewer_drilled c.args.others.now (search rules), refl)
      | in_default-via-else-others-lt2+else-others-lt3 w ↦ (more_drilled c.args.others.now (grind (arith, rules)), refl)
    ]

pub returns-in_default-number_up_to : goal.returns-in_default-number_up_to
returns-in_default-number_up_to g c = λ files count.
    let two : length c.args.others.now ≡ 2 = omega (arith, c.in-len2.len_at_least, c.in-len2.len_below) in
    let is = two_drilled c.args.others.now c.size-item.result c.sessions-item.result two c.size-item.is c.sessions-item.is
    ∙ ap (λ n. drill_of n (number_up_to 16 (string_bytes c.sessions-item.result)))
    (sym (c.in_default-number_up_to.ensures.number ∙ ap (number_up_to 100) c.as_str.ensures.value)) in
    (is, refl)

pub returns-in_default-number_up_to-2 : goal.returns-in_default-number_up_to-2
returns-in_default-number_up_to-2 g c = λ files count.
    let two : length c.args.others.now ≡ 2 = omega (arith, c.in-len2.len_at_least, c.in-len2.len_below) in
    let is = two_drilled c.args.others.now c.size-item.result c.sessions-item.result two c.size-item.is c.sessions-item.is
    ∙ (λ i. drill_of (sym (c.in-Some.ensures.number ∙ ap (number_up_to 100) c.as_str.ensures.value) i)
    (sym (c.in_default-number_up_to-2.ensures.number ∙ ap (number_up_to 16) c.as_str-2.ensures.value) i)) in
    (is, refl)

pub returns : goal.returns
returns g c = λ files count.
    let two : length c.args.others.now ≡ 2 = omega (arith, c.in-len2.len_at_least, c.in-len2.len_below) in
    let size = c.in-Some.size in
    let sessions = c.in-Some-number_up_to.sessions in
    let is : drill_among (map string_bytes c.args.others.now) ≡ drill_form size sessions =
    two_drilled c.args.others.now c.size-item.result c.sessions-item.result two c.size-item.is c.sessions-item.is
    ∙ (λ i. drill_of (sym (c.in-Some.ensures.number ∙ ap (number_up_to 100) c.as_str.ensures.value) i)
    (sym (c.in-Some-number_up_to.ensures.number ∙ ap (number_up_to 16) c.as_str-2.ensures.value) i)) in
    asked_drill (drill_among (map string_bytes c.args.others.now)) size sessions files count c.drilled_work.result is c.drilled_work.ensures
