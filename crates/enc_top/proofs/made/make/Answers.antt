use Rattle.std.proofs.lemmas.Bool.Decides.{nat_tests}
use Rattle.std.proofs.Common.{◌≡◌, ℕ, List, Some, String, Global, get_or, length, map, refl, rules, sym, ap, ◌∙◌, string_bytes, arith}
use Rattle.std.proofs.lemmas.Result.{err_from_is_err_and}
use Rattle.enc_top.specs.Words.{make_among, make_form, make_of, number_up_to}
use Rattle.enc_top.proofs.FormWords.{fewer_made, more_made, two_made}
use Rattle.enc_top.proofs.GeneratedWork.{asked_make, no_room_to_make}
use Rattle.enc_top.proofs.made.make.Goals as goal
use Rattle.enc_top.proofs.made.make.Goals.{in_default-via-then-others-lt2, in_default-via-else-others-lt2+else-others-lt3}

pub returns-in_default : goal.returns-in_default
returns-in_default c = λ files count.
    elim c.in_default.branch [
      | in_default-via-then-others-lt2 w ↦ (fewer_made c.args.others.now (grind (arith, nat_tests, rules)), refl)
      | in_default-via-else-others-lt2+else-others-lt3 w ↦ (more_made c.args.others.now (search rules), refl)
    ]

pub returns-in_default-number_up_to : goal.returns-in_default-number_up_to
returns-in_default-number_up_to c = λ files count.
    let two : length c.args.others.now ≡ 2 = omega (arith, c.in-len2.len_at_least, c.in-len2.len_below) in
    let is = two_made c.args.others.now c.size-item.result c.out-item.result two c.size-item.is c.out-item.is
    ∙ ap (make_of (string_bytes c.out-item.result)) (sym (c.in_default-number_up_to.ensures.number ∙ ap (number_up_to 100) c.as_str.ensures.value)) in
    (is, refl)

form_is : (others : List (String Global)) (size out : String Global) (text : List ℕ) (n : ℕ) → length others ≡ 2 → size ≡ get_or others 0 size
    → out ≡ get_or others 1 out → text ≡ string_bytes out → Some n ≡ number_up_to 100 (string_bytes size)
    → make_among (map string_bytes others) ≡ make_form n text
form_is others size out text n two is_size is_out is_text is_number =
    two_made others size out two is_size is_out ∙ (λ i. make_of (sym is_text i) (sym is_number i))

pub returns-in_err-made_work : goal.returns-in_err-made_work
returns-in_err-made_work c = λ files count.
    let two : length c.args.others.now ≡ 2 = omega (arith, c.in-len2.len_at_least, c.in-len2.len_below) in
    let is = form_is c.args.others.now c.size-item.result c.out-item.result c.as_str-2.result.now c.in-Some.size two c.size-item.is c.out-item.is
    c.as_str-2.ensures.value (c.in-Some.ensures.number ∙ ap (number_up_to 100) c.as_str.ensures.value) in
    let refused = err_from_is_err_and c.from_residual.result c.from_residual.ensures.1 in
    rw (refused.1, refused.2) (no_room_to_make (make_among (map string_bytes c.args.others.now)) c.in-Some.size c.as_str-2.result.now files count is)

pub returns : goal.returns
returns c = λ files count.
    let two : length c.args.others.now ≡ 2 = omega (arith, c.in-len2.len_at_least, c.in-len2.len_below) in
    let is = form_is c.args.others.now c.size-item.result c.out-item.result c.as_str-2.result.now c.in-Some.size two c.size-item.is c.out-item.is
    c.as_str-2.ensures.value (c.in-Some.ensures.number ∙ ap (number_up_to 100) c.as_str.ensures.value) in
    asked_make (make_among (map string_bytes c.args.others.now)) c.in-Some.size c.as_str-2.result.now files count c.in_ok-made_work.field-0 is
    c.in_ok-made_work.ensures
