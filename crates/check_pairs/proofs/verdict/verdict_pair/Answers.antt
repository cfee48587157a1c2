use Rattle.std.proofs.Common.{◌≡◌, ◌≤◌, length, arith, ◌∙◌, ap, subst, true}
use Rattle.std.specs.Prelude.{IfOk, Result}
use Rattle.std.proofs.lemmas.Result.{IfOk-weaker}
use Rattle.s57_types.specs.declared.name.RecName.{RecName}
use Rattle.s57_types.specs.declared.cell.Cell.{Cell}
use Rattle.cell_spec.specs.declared.finding.Row.{Row}
use Rattle.cell_spec.specs.declared.key.Subject.TheVariants.{Pair}
use Rattle.rule_spec.specs.Affected.{exact_row}
use Rattle.rule_spec.specs.Findings.{is_subject}
use Rattle.rule_spec.specs.Reads.{read_set}
use Rattle.check_pairs.proofs.Keys.{two_keys}
use Rattle.check_pairs.proofs.Parts.{below_from_subject}
use Rattle.check_pairs.proofs.verdict.verdict_pair.Goals as goal

-- the row of the parts is that of the names that were looked up
row_named : {E : Type 0} (r : Result Row E) (c : Cell) (a b first second : RecName) → first ≡ a → second ≡ b
    → (is_subject c (Pair first second) ≡ true → IfOk r (λ row. row ≡ exact_row c (Pair first second)))
    → is_subject c (Pair a b) ≡ true → IfOk r (λ row. row ≡ exact_row c (Pair a b))
row_named r c a b first second is_first is_second judged subject =
    subst (λ n. IfOk r (λ row. row ≡ exact_row c (Pair n b))) is_first
    (subst (λ n. IfOk r (λ row. row ≡ exact_row c (Pair first n))) is_second
    (judged ((λ i. is_subject c (Pair (is_first i) (is_second i))) ∙ subject)))

-- a part of the row, where there is one
part_named : {E X : Type 0} (part : Row → X) (r : Result Row E) (c : Cell) (a b first second : RecName) → first ≡ a → second ≡ b
    → (is_subject c (Pair first second) ≡ true → IfOk r (λ row. row ≡ exact_row c (Pair first second)))
    → is_subject c (Pair a b) ≡ true → IfOk r (λ row. part row ≡ part (exact_row c (Pair a b)))
part_named part r c a b first second is_first is_second judged subject =
    IfOk-weaker r (λ (row : Row). row ≡ exact_row c (Pair a b)) (λ (row : Row). part row ≡ part (exact_row c (Pair a b))) (λ row is. ap part is)
    (row_named r c a b first second is_first is_second judged subject)

-- the read set has the two names
two_there : (c : Cell) (a b : RecName) → is_subject c (Pair a b) ≡ true → 2 ≤ length (read_set c (Pair a b))
two_there c a b subject = two_keys c a b (below_from_subject c a b subject)

pub returns-in_err-first-clause-steps : goal.returns-in_err-first-clause-steps
returns-in_err-first-clause-steps g c = omega (arith, two_there (g.B.Look.cell c.args.look.now) c.args.a c.args.b c.requires)

pub returns-in_err-second-clause-steps : goal.returns-in_err-second-clause-steps
returns-in_err-second-clause-steps g c = omega (arith, two_there (g.B.Look.cell c.args.look.now) c.args.a c.args.b c.requires)

pub returns-clause-steps : goal.returns-clause-steps
returns-clause-steps g c = omega (arith, two_there (g.B.Look.cell c.args.look.now) c.args.a c.args.b c.requires)

pub returns-clause-subject : goal.returns-clause-subject
returns-clause-subject g c =
    part_named (λ (row : Row). row.subject) c.pair_row.result (g.B.Look.cell c.args.look.now) c.args.a c.args.b _ _ c.in_ok-first.ensures.named
    c.in_ok-second.ensures.named (c.pair_row.ensures (g.B.Look.cell c.args.look.now) c.in_ok-first.ensures.part c.in_ok-second.ensures.part) c.requires

pub returns-clause-findings : goal.returns-clause-findings
returns-clause-findings g c =
    part_named (λ (row : Row). row.findings) c.pair_row.result (g.B.Look.cell c.args.look.now) c.args.a c.args.b _ _ c.in_ok-first.ensures.named
    c.in_ok-second.ensures.named (c.pair_row.ensures (g.B.Look.cell c.args.look.now) c.in_ok-first.ensures.part c.in_ok-second.ensures.part) c.requires

pub returns-clause-reads : goal.returns-clause-reads
returns-clause-reads g c =
    part_named (λ (row : Row). row.reads) c.pair_row.result (g.B.Look.cell c.args.look.now) c.args.a c.args.b _ _ c.in_ok-first.ensures.named
    c.in_ok-second.ensures.named (c.pair_row.ensures (g.B.Look.cell c.args.look.now) c.in_ok-first.ensures.part c.in_ok-second.ensures.part) c.requires
