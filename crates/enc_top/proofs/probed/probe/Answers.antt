use Rattle.std.proofs.Common.{◌≡◌, length, map, refl, rules, SFits, w32, sym, ap, ◌∙◌, string_bytes, subst, arith}
use Rattle.geometry_spec.specs.Points.{Point}
use Rattle.enc_top.specs.Outcome.{IsAskedBy}
use Rattle.enc_top.specs.Words.{coordinate_of, probe_among, probe_form, probe_of}
use Rattle.enc_top.proofs.FormWords.{fewer_probed, more_probed, three_probed}
use Rattle.enc_top.proofs.ProbedWork.{passed, passed_is}
use Rattle.enc_top.proofs.probed.probe.Goals as goal
use Rattle.enc_top.proofs.probed.probe.Goals.{in_default-via-then-others-lt3, in_default-via-else-others-lt3+else-others-lt4}

pub returns-in_default-clause-asked : goal.returns-in_default-clause-asked
returns-in_default-clause-asked g c =
    elim c.in_default.branch [
      | in_default-via-then-others-lt3 w ↦ (fewer_probed c.args.others.now (search rules), refl)
      | in_default-via-else-others-lt3+else-others-lt4 w ↦ (more_probed c.args.others.now (search rules), refl)
    ]

pub returns-in_default-coordinate-clause-asked : goal.returns-in_default-coordinate-clause-asked
returns-in_default-coordinate-clause-asked g c =
    let three : length c.args.others.now ≡ 3 = omega (arith, c.in-len3.len_at_least, c.in-len3.len_below) in
    let is = three_probed c.args.others.now c.cell-item.result c.y-item.result c.x-item.result three c.cell-item.is c.y-item.is c.x-item.is
    ∙ ap (λ y. probe_of (string_bytes c.cell-item.result) y (coordinate_of (string_bytes c.x-item.result)))
    (sym (c.in_default-coordinate.ensures ∙ ap coordinate_of c.as_str.ensures.value)) in
    (is, refl)

pub returns-in_default-coordinate-2-clause-asked : goal.returns-in_default-coordinate-2-clause-asked
returns-in_default-coordinate-2-clause-asked g c =
    let three : length c.args.others.now ≡ 3 = omega (arith, c.in-len3.len_at_least, c.in-len3.len_below) in
    let is = three_probed c.args.others.now c.cell-item.result c.y-item.result c.x-item.result three c.cell-item.is c.y-item.is c.x-item.is
    ∙ (λ i. probe_of (string_bytes c.cell-item.result) (sym (c.in-Some.ensures ∙ ap coordinate_of c.as_str.ensures.value) i)
    (sym (c.in_default-coordinate-2.ensures ∙ ap coordinate_of c.as_str-2.ensures.value) i)) in
    (is, refl)

pub returns-clause-asked : goal.returns-clause-asked
returns-clause-asked g c =
    let three : length c.args.others.now ≡ 3 = omega (arith, c.in-len3.len_at_least, c.in-len3.len_below) in
    let y = c.in-Some.y in
    let x = c.in-Some-coordinate.x in
    let latitude : SFits w32 y = search rules in
    let longitude : SFits w32 x = search rules in
    let cell = c.as_str-3.result.now in
    let is : probe_among (map string_bytes c.args.others.now) ≡ probe_form cell (passed y x) =
    three_probed c.args.others.now c.cell-item.result c.y-item.result c.x-item.result three c.cell-item.is c.y-item.is c.x-item.is
    ∙ (λ i. probe_of (sym c.as_str-3.ensures.value i) (sym (c.in-Some.ensures ∙ ap coordinate_of c.as_str.ensures.value) i)
    (sym (c.in-Some-coordinate.ensures ∙ ap coordinate_of c.as_str-2.ensures.value) i))
    ∙ ap (λ (at : Point). probe_form cell at) (sym (passed_is y x latitude longitude)) in
    subst (λ f. IsAskedBy ⊥ f (g.H.Shelf.files c.args.shelf.now) (g.H.Shelf.read_faults c.args.shelf.now)
    (g.H.Shelf.read_faults c.probe_at.new.shelf) c.probe_at.result) (sym is) c.probe_at.ensures.asked
