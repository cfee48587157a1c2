use Rattle.std.proofs.Common.{◌<◌, length, List, ℕ, sym, subst, arith, rules}
use Rattle.std.proofs.lemmas.Bool.{eqb-true, eqb-false}
use Rattle.script_text.specs.Widths.{IsTextOfWidth}
use Rattle.script_text.proofs.Texts.{IsTextLeft, text_step, text_end, width_more}
use Rattle.script_text.proofs.text.text_of.Goals as goal

pub loop-rest-preserved : goal.loop-rest-preserved
loop-rest-preserved c =
    let not_none = eqb-false (length c.loop-rest.rest.now) 0 (sym c.loop-rest-test.ensures) in
    let some : 0 < length c.loop-rest.rest.now = omega (arith, not_none) in
    let small : c.next_byte-byte.result.0 < 256 = search rules in (
      subst IsTextOfWidth (sym c.in_ok-push.ensures.ok) (width_more _ _ c.loop-rest.invariant.0 small),
      λ value width spelled. subst (λ (t : List ℕ). IsTextLeft value t c.next_byte-byte.result.1.now) (sym c.in_ok-push.ensures.ok)
          (text_step value _ _ _ _ (c.loop-rest.invariant.1 value width spelled) some c.next_byte-byte.ensures.found),
    )

pub returns-clause-found : goal.returns-clause-found
returns-clause-found c = λ value width spelled.
    text_end value _ _ (c.loop-rest.invariant.1 value width spelled) (eqb-true (length c.loop-rest.rest.now) 0 (sym c.loop-rest-test.ensures))
