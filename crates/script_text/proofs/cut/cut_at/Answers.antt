use Rattle.std.proofs.Common.{◌≡◌, eqb, length, ◌∙◌, rules, tests}
use Rattle.std.proofs.lemmas.Iterator.{YieldsList-from_slice}
use Rattle.std.proofs.lemmas.Iterator.Search.{position_from_yields_List}
use Rattle.script_text.specs.Cuts.{before}
use Rattle.script_text.proofs.Cuts.{place_is, front_at, rest_at}
use Rattle.script_text.proofs.cut.cut_at.Goals as goal

pub returns : goal.returns
returns c =
    let place = position_from_yields_List (λ b. eqb b c.args.mark) _ _ _ c.position-place.ensures.ran
    (YieldsList-from_slice c.args.text.now c.iter.ensures.rest) (λ x b q k. search (rules, tests)) in
    let at : c.unwrap_or.result ≡ length (before c.args.mark c.args.text.now) = c.unwrap_or.ensures ∙ place_is c.args.mark c.args.text.now _ place in
    record { before = c.split_at.ensures.front ∙ front_at _ _ _ at; from = c.split_at.ensures.back ∙ rest_at _ _ _ at }
