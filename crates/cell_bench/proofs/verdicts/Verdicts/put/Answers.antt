use Rattle.std.proofs.Common.{◌≡◌, sym, ap, ◌∙◌, arith}
use Rattle.cell_spec.specs.Names.{subject_order}
use Rattle.row_spec.specs.Rows.{value_of}
use Rattle.cell_bench.specs.Verdicts.{count_at, total_of, with_findings}
use Rattle.cell_bench.proofs.Totals.{count_within, total_with}
use Rattle.cell_bench.proofs.verdicts.Verdicts.put.Goals as goal

pub overflow_cast-had : goal.overflow_cast-had
overflow_cast-had c = let within = count_within c.args.self.now c.args.subject in omega (arith, within, c.count_of-had.ensures, c.requires.room)

pub overflow_sub-self : goal.overflow_sub-self
overflow_sub-self c =
    let within = count_within c.args.self.now c.args.subject in
    let same : total_of c.self-2.inside.table ≡ total_of c.args.self.now = ap total_of c.self-2.view_is in
    omega (arith, within, c.count_of-had.ensures, c.self-2.invariant, same)

pub invariant_of-self-2 : goal.invariant_of-self-2
invariant_of-self-2 c =
    let rows = c.self-2.inside.table in
    let whole = total_with rows c.args.subject c.args.found c.put_found.ensures.ascending in
    let had : c.count_of-had.result ≡ count_at (value_of subject_order rows c.args.subject) =
    c.count_of-had.ensures ∙ ap (λ those. count_at (value_of subject_order those c.args.subject)) (sym c.self-2.view_is) in
    let put : total_of c.put_found.new.table ≡ total_of (with_findings rows c.args.subject c.args.found) = ap total_of c.in_ok-put_found.ensures.ok in
    omega (arith, whole, had, put, c.len-has.ensures, c.self-2.invariant)

pub returns-clause-within : goal.returns-clause-within
returns-clause-within c =
    let rows = c.self-2.inside.table in
    let whole = total_with rows c.args.subject c.args.found c.put_found.ensures.ascending in
    let put : total_of c.put_found.new.table ≡ total_of (with_findings rows c.args.subject c.args.found) = ap total_of c.in_ok-put_found.ensures.ok in
    let same : total_of rows ≡ total_of c.args.self.now = ap total_of c.self-2.view_is in
    omega (arith, whole, put, same)
