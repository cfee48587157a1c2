use Rattle.std.proofs.Common.{◌∷◌, sym, ◌∙◌, rules}
use Rattle.report_text.proofs.FirstFindings.{all_taken, enough_taken, none_taken, some_taken}
use Rattle.report_text.proofs.first.first_findings.Goals as goal

pub loop-subject-init : goal.loop-subject-init
loop-subject-init c = none_taken c.args.limit c.args.table.now c.into_iter-subject-iterator.result c.new-first.result.items
    c.new-first.ensures.items (c.into_iter-subject-iterator.ensures.into_iter_gives ∙ c.rows-subject-items.ensures)

pub returns-then-len-limit : goal.returns-then-len-limit
returns-then-len-limit c = enough_taken c.args.limit _ c.loop-subject.first.items c.loop-subject.subject-iterator c.loop-subject.invariant (search rules)

pub loop-subject-preserved : goal.loop-subject-preserved
loop-subject-preserved c =
    some_taken c.args.limit _ c.loop-subject.first.items c.push_some.new.first.items c.in-Some.field-0.now.0 c.as_slice.result.now
    c.next.new.self c.loop-subject.subject-iterator c.loop-subject.invariant
    (c.in-Some.ensures.steps ∙ (λ i. (c.in-Some.field-0.now.0, sym (c.as_slice.ensures ∙ c.deref.ensures) i) ∷ c.next.new.self)) c.in_ok-push_some.ensures

pub returns : goal.returns
returns c = all_taken c.args.limit _ c.loop-subject.first.items c.loop-subject.subject-iterator c.loop-subject.invariant c.in-None.ensures.steps.0
