use Rattle.std.proofs.Common.{◌≡◌, Bool, true, false, not, List, [], ◌∷◌, Option, None, Some, cond, is_some, refl, subst, sym, ap, ◌∙◌}
use Rattle.std.specs.Borrow.{Bor}
use Rattle.std.specs.Option.{option_copied}
use Rattle.std.specs.declared.cmp.Ordering.{Ordering}
use Rattle.std.specs.Ordering.{is_eq}
use Rattle.cell_spec.specs.declared.finding.Finding.{Finding}
use Rattle.cell_spec.specs.declared.key.Subject.{Subject}
use Rattle.cell_spec.specs.Names.{subject_order}
use Rattle.row_spec.specs.Rows.{value_of, without_key}
use Rattle.cell_bench.proofs.verdicts.Verdicts.lacks.Goals as goal

without_by : (tie : Bool) (row : Subject × List Finding) (rows : List (Subject × List Finding)) (s : Subject)
    → is_some (cond tie (Some row.1) (value_of subject_order rows s)) ≡ false
    → (is_some (value_of subject_order rows s) ≡ false → without_key subject_order rows s ≡ rows)
    → cond tie rows (row ∷ without_key subject_order rows s) ≡ row ∷ rows
without_by true row rows s none rest = cc
without_by false row rows s none rest = ap (λ those. row ∷ those) (rest none)

-- without a key that no row has the rows stay
without_none : (rows : List (Subject × List Finding)) (s : Subject) → is_some (value_of subject_order rows s) ≡ false
    → without_key subject_order rows s ≡ rows
without_none [] s none = refl
without_none (row ∷ rows) s none = without_by (is_eq (subject_order row.0 s)) row rows s none (without_none rows s)

none_by : {X : Type 0} (b : Bool) (o : Option (Bor X)) → is_some o ≡ not b → b ≡ true → is_some (option_copied o) ≡ false
none_by true None is e = refl
none_by true (Some x) is e = is
none_by false o is e = cc

pub returns : goal.returns
returns c = λ none.
    let rows = c.self.inside.table in
    let found = subst (λ (order : Subject → Subject → Ordering). option_copied c.get.result ≡ value_of order rows c.args.subject.now)
    (λ i a b. c.orders_are_by_parts.ensures.subjects a b i) c.get.ensures in
    subst (λ those. without_key subject_order those c.args.subject.now ≡ those) c.self.view_is
    (without_none rows c.args.subject.now (ap is_some (sym found) ∙ none_by c.is_none.result c.get.result c.is_none.ensures none))
