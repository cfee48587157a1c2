use Rattle.std.proofs.Common.{◌++◌, filter, ◌∙◌, sym}
use Rattle.std.specs.Prelude.{not}
use Rattle.std.proofs.lemmas.List.Elements.{filter-append}
use Rattle.cell_spec.specs.declared.key.Subject.{Subject}
use Rattle.rule_spec.specs.Findings.{is_subject}
use Rattle.affected_subjects.proofs.Known.{failing_end, passing_end}
use Rattle.affected_subjects.proofs.reach.split.Goals as goal

pub returns-then-rounds-clause-judged : goal.returns-then-rounds-clause-judged
returns-then-rounds-clause-judged c =
    let has = is_subject c.args.edited.now in
    let first = c.in_ok-ask.ensures.judged ∙ (λ i. c.in_ok-with_capacity.ensures.items i ++ filter has (c.as_slice-first.ensures i)) in
    c.in_ok-extend_from_slice.ensures.items
    ∙ (λ i. first i ++ c.deref.ensures.value i)
    ∙ passing_end has c.args.rounds.now.first c.args.rounds.now.pairs.items (c.requires c.if-rounds.true)

pub returns-then-rounds-clause-gone : goal.returns-then-rounds-clause-gone
returns-then-rounds-clause-gone c =
    let has = is_subject c.args.edited.now in
    c.in_ok-ask.ensures.gone
    ∙ (λ i. c.new.ensures.items i ++ filter (λ (s : Subject). not (has s)) (c.as_slice-first.ensures i))
    ∙ failing_end has c.args.rounds.now.first c.args.rounds.now.pairs.items (c.requires c.if-rounds.true)

pub returns-clause-gone : goal.returns-clause-gone
returns-clause-gone c =
    let lacks = λ (s : Subject). not (is_subject c.args.edited.now s) in
    let first = c.in_ok-ask.ensures.gone ∙ (λ i. c.new.ensures.items i ++ filter lacks (c.as_slice-first.ensures i)) in
    c.in_ok-ask-2.ensures.gone
    ∙ (λ i. first i ++ filter lacks (c.deref-2.ensures.value i))
    ∙ sym (filter-append lacks c.args.rounds.now.first c.args.rounds.now.pairs.items)
