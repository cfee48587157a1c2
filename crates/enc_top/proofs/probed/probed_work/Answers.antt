use Rattle.std.proofs.Common.{◌++◌, SFits, w32, rules, ap, ◌∙◌, subst}
use Rattle.geometry_spec.specs.Points.{Point}
use Rattle.skin_probe.specs.ProbeText.{probe_text}
use Rattle.enc_top.specs.Outcome.{IsProbeIn}
use Rattle.enc_top.proofs.ProbedWork.{passed, passed_is, probed_is, text_alone}
use Rattle.enc_top.proofs.probed.probed_work.Goals as goal

pub returns : goal.returns
returns g c =
    let latitude : SFits w32 c.args.y = search rules in
    let longitude : SFits w32 c.args.x = search rules in
    let sheet = c.in_ok-sheet.sheet in
    let at : Point = passed c.args.y c.args.x in
    let text = c.in_ok-push_sheet.ensures.ok ∙ ap (λ before. before ++ probe_text at sheet) c.new-text.ensures.items in
    subst (λ (p : Point). IsProbeIn c.args.bench.now p (text_alone c.push_sheet.new.out.items)) (passed_is c.args.y c.args.x latitude longitude)
    (probed_is c.args.bench.now at sheet c.push_sheet.new.out.items c.in_ok-sheet.ensures.sheet c.in_ok-sheet.ensures.by_edges
    c.in_ok-sheet.ensures.balanced text)
