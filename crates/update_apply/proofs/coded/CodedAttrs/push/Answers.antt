use Rattle.std.proofs.Common.{◌≡◌, cond, true, length, sym, ap, ◌∙◌, arith}
use Rattle.std.specs.BTreeSet.{contains}
use Rattle.std.specs.Ordering.{is_eq}
use Rattle.update_apply.specs.CodedAttributes.{place_order, stands_at}
use Rattle.update_apply.proofs.CodedAttributes.{pushed}
use Rattle.update_apply.proofs.coded.CodedAttrs.push.Goals as goal

pub returns-clause-indexed : goal.returns-clause-indexed
returns-clause-indexed c code k = let before = c.args.self.now in let attr = c.args.attr in
    let last : c.len.result ≡ length before.slots.items = omega arith in
    c.in_ok-insert.ensures.updates.0 (code, k)
    ∙ ap (λ n. cond (is_eq (place_order (attr.code, n) (code, k))) true (contains place_order before.places (code, k))) last
    ∙ ap (λ stands. cond (is_eq (place_order (attr.code, length before.slots.items) (code, k))) true stands) (c.requires code k)
    ∙ pushed attr before.slots.items code k
    ∙ ap (λ slots. stands_at code k slots) (sym c.in_ok-push.ensures.items)
