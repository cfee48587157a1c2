use Rattle.std.proofs.Common.{◌++◌, ◌∷◌, [], List, sym, ap, ◌∙◌}
use Rattle.cell_spec.specs.declared.key.Key.{Key}
use Rattle.cell_spec.specs.declared.key.Subject.{Subject}
use Rattle.depend_map.specs.Changes.{kept_of}
use Rattle.depend_map.proofs.Changed.{more_kept}
use Rattle.depend_map.proofs.map.shared_rows.Goals as goal

pub loop-subject-preserved-in_ok-push : goal.loop-subject-preserved-in_ok-push
loop-subject-preserved-in_ok-push c =
    let kept = c.loop-subject.kept.items in
    let row : Subject × List Key = (c.in-Some.subject, c.in-Some.keys) in
    let split = c.in-Some.ensures.steps.0 in
    let value = c.in_ok-push.ensures.items ∙ ap (λ keys. kept ++ (c.in-Some.subject, keys) ∷ []) c.in_ok-make.ensures in
    ap (λ those. those ++ kept_of c.next.new.self.rest.items) value
    ∙ more_kept kept row c.next.new.self.rest.items (kept_of c.args.rows.items)
    (ap (λ rest. kept ++ kept_of rest) (sym split) ∙ c.loop-subject.invariant) (sym c.is_kept.ensures ∙ c.if-is_kept.true)
