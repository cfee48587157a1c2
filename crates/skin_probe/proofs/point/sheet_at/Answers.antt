use Rattle.std.proofs.Common.{rules, SFits, w64, sym, ap, ◌∙◌}
use Rattle.std.proofs.lemmas.Int.{to_z-of_z}
use Rattle.s57_types.specs.declared.cell.Cell.{Cell}
use Rattle.rule_spec.specs.Features.{is_coverage_area, is_group1_area}
use Rattle.skin_probe.specs.Sheet.{winds_round}
use Rattle.skin_probe.specs.Totals.{winding_total}
use Rattle.skin_probe.proofs.point.sheet_at.Goals as goal

pub returns-clause-sheet : goal.returns-clause-sheet
returns-clause-sheet g c =
    let one : SFits w64 c.in_ok-group1.group1.total = search rules in
    let two : SFits w64 c.in_ok-cover.cover.total = search rules in
    λ i. record {
      group1 = (c.in_ok-group1.ensures.rounds ∙ ap (λ (cell : Cell). winds_round is_group1_area cell c.args.at) c.store-store.ensures) i;
      cover = (c.in_ok-cover.ensures.rounds ∙ ap (λ (cell : Cell). winds_round is_coverage_area cell c.args.at) c.store-store.ensures) i;
      sums = (
        (to_z-of_z w64 c.in_ok-group1.group1.total one ∙ c.in_ok-group1.ensures.total
            ∙ ap (λ (cell : Cell). winding_total is_group1_area cell c.args.at) c.store-store.ensures) i,
        (to_z-of_z w64 c.in_ok-cover.cover.total two ∙ c.in_ok-cover.ensures.total
            ∙ ap (λ (cell : Cell). winding_total is_coverage_area cell c.args.at) c.store-store.ensures) i,
      );
      unbalanced = c.unbalanced_of-unbalanced.ensures i;
    }

pub returns-clause-by_edges : goal.returns-clause-by_edges
returns-clause-by_edges g c =
    let one : SFits w64 c.in_ok-group1.group1.total = search rules in
    let two : SFits w64 c.in_ok-cover.cover.total = search rules in
    let by_edges = c.winding_sum_by_edges.ensures c.args.bench.now c.known.ensures.writable c.args.at in
    record {
      group1 =
          to_z-of_z w64 c.in_ok-group1.group1.total one ∙ c.in_ok-group1.ensures.total
          ∙ ap (λ (cell : Cell). winding_total is_group1_area cell c.args.at) c.store-store.ensures ∙ by_edges.group1;
      coverage =
          to_z-of_z w64 c.in_ok-cover.cover.total two ∙ c.in_ok-cover.ensures.total
          ∙ ap (λ (cell : Cell). winding_total is_coverage_area cell c.args.at) c.store-store.ensures ∙ by_edges.coverage;
    }

pub returns-clause-balanced : goal.returns-clause-balanced
returns-clause-balanced g c = λ none.
    let one : SFits w64 c.in_ok-group1.group1.total = search rules in
    let two : SFits w64 c.in_ok-cover.cover.total = search rules in
    to_z-of_z w64 c.in_ok-group1.group1.total one ∙ c.in_ok-group1.ensures.total
    ∙ ap (λ (cell : Cell). winding_total is_group1_area cell c.args.at) c.store-store.ensures
    ∙ c.balanced_sides_equal_winding.ensures c.args.bench.now c.known.ensures.writable (sym c.unbalanced_of-unbalanced.ensures ∙ none) c.args.at
    ∙ sym (to_z-of_z w64 c.in_ok-cover.cover.total two ∙ c.in_ok-cover.ensures.total
    ∙ ap (λ (cell : Cell). winding_total is_coverage_area cell c.args.at) c.store-store.ensures)
