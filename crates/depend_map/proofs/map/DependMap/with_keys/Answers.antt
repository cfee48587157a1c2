use Rattle.std.proofs.Common.{◌≡◌, cond, subst, sym, ap, ◌∙◌}
use Rattle.std.specs.declared.cmp.Ordering.{Ordering}
use Rattle.cell_spec.specs.declared.key.Subject.{Subject}
use Rattle.cell_spec.specs.Names.{same_subject, subject_order}
use Rattle.row_spec.specs.Rows.{with_row}
use Rattle.depend_map.specs.Readers.{AreReadersOf, has_pair, holds_key}
use Rattle.depend_map.proofs.Changed.{put_readers}
use Rattle.depend_map.proofs.map.DependMap.with_keys.Goals as goal

pub returns-then-keeps : goal.returns-then-keeps
returns-then-keeps c = c.keeps.ensures c.if-keeps.true

pub invariant_of-result : goal.invariant_of-result
invariant_of-result c =
    let rows = c.self.inside.reads in
    let put = subst (λ (order : Subject → Subject → Ordering). c.put.new.self ≡ with_row order rows c.args.subject c.in_ok-make.field-0)
    (λ i a b. c.orders_are_by_parts.ensures.subjects a b i) c.in_ok-put.ensures.ok in
    let value = c.in_ok-make.ensures ∙ c.in_ok-copy.ensures in
    subst (λ those. AreReadersOf those c.replace_keys.new.readers) (sym (put ∙ ap (with_row subject_order rows c.args.subject) value))
    (put_readers rows c.self.inside.readers c.replace_keys.new.readers c.args.subject c.args.keys.now c.self.invariant
    (λ k s. c.in_ok-replace_keys.ensures k s
    ∙ ap (λ keys. cond (same_subject c.args.subject s) (holds_key keys k) (has_pair c.self.inside.readers k s)) c.as_slice.ensures))
