use Rattle.std.proofs.Common.{ℕ, ℤ, filter, map, rules, SFits, w64, ap, ◌∙◌}
use Rattle.std.proofs.lemmas.Int.{to_z-of_z}
use Rattle.skin_probe.specs.Sheet.{goes_round, wind_of}
use Rattle.skin_probe.specs.Sorts.{is_of_sort}
use Rattle.skin_probe.specs.Totals.{areas_of}
use Rattle.skin_probe.specs.Winding.{sum_of}
use Rattle.skin_probe.proofs.Sums.{sum_mapped}
use Rattle.skin_probe.proofs.sheet.probe_sort.Goals as goal

pub returns-clause-rounds : goal.returns-clause-rounds
returns-clause-rounds g c =
    let areas = ap (map (λ f. f.now)) c.as_slice-areas.ensures.value ∙ c.in_ok-areas.ensures in
    let winds = c.as_slice-winds.ensures.value ∙ c.in_ok-winds.ensures ∙ ap (map (wind_of c.args.probe.now.look.now c.args.probe.now.at)) areas in
    c.in_ok-rounds.ensures ∙ ap (filter goes_round) winds

pub returns-clause-total : goal.returns-clause-total
returns-clause-total g c =
    let cell = c.args.probe.now.look.now in
    let at = c.args.probe.now.at in
    let areas = ap (map (λ f. f.now)) c.as_slice-areas.ensures.value ∙ c.in_ok-areas.ensures in
    let winds = c.as_slice-winds.ensures.value ∙ c.in_ok-winds.ensures ∙ ap (map (wind_of cell at)) areas in
    let fits : SFits w64 c.in_ok-total.total = search rules in
    to_z-of_z w64 c.in_ok-total.total fits ∙ c.in_ok-total.ensures ∙ ap (sum_of (λ (wind : ℕ × ℤ). wind.1)) winds
    ∙ sum_mapped (λ (wind : ℕ × ℤ). wind.1) (wind_of cell at) (areas_of (is_of_sort c.args.sort) cell)
