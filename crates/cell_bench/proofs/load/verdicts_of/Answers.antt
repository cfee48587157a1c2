use Rattle.std.proofs.Common.{◌≤◌, sym, ap, ◌∙◌, subst}
use Rattle.cell_spec.specs.Names.{subject_order}
use Rattle.history_spec.specs.Steps.{finding_limit}
use Rattle.row_spec.specs.Rows.{IsAscending}
use Rattle.finding_laws.specs.Tables.{IsVerdictTable}
use Rattle.cell_bench.specs.Verdicts.{total_of}
use Rattle.cell_bench.proofs.Grouped.{all_are_made}
use Rattle.cell_bench.proofs.load.verdicts_of.Goals as goal

pub of_rows-requires : goal.of_rows-requires
of_rows-requires c =
    let cell = c.args.cell.now in
    let table = c.listed_tables_are_right.ensures.verdicts cell in
    let made = all_are_made cell c.args.findings.now c.as_slice.result.now c.in_ok-rows.rows.items table c.as_slice.ensures
    c.requires.all c.in_ok-rows.ensures in
    record {
      ascending = subst (IsAscending subject_order) (sym made) table.ascending;
      count = c.len.ensures ∙ c.requires.count ∙ ap total_of (sym made);
    }

pub returns : goal.returns
returns c =
    let cell = c.args.cell.now in
    let table = c.listed_tables_are_right.ensures.verdicts cell in
    let made = all_are_made cell c.args.findings.now c.as_slice.result.now c.in_ok-rows.rows.items table c.as_slice.ensures
    c.requires.all c.in_ok-rows.ensures in
    let same = c.in_ok-verdicts.ensures ∙ made in
    record {
      verdicts = subst (IsVerdictTable cell) (sym same) table;
      few = subst (λ count. count ≤ finding_limit) (sym (ap total_of same)) c.requires.within;
    }
