use Rattle.std.proofs.Common.{◌≡◌, ◌∙◌, ◌+◌, ◌-◌, max, sym, ap, length, take, arith, ℕ}
use Rattle.std.specs.Prelude.{fold}
use Rattle.frame_write.specs.OutFields.{lengths_of}
use Rattle.frame_write.proofs.Steps.{sum_within, sum_more, longest_more}
use Rattle.frame_write.proofs.layout.measure.Goals as goal

pub returns-then-length-sizes : goal.returns-then-length-sizes
returns-then-length-sizes c =
    let field = c.field-item.result in
    let within = sum_within c.args.fields.now c.loop-field.field-index field (omega arith) c.field-item.is in
    let size : c.len-length.result ≡ length field.bytes.items = c.len-length.ensures ∙ field.bytes.ok.0 in
    omega (arith, within, size, c.loop-field.invariant.total)

pub loop-field-preserved : goal.loop-field-preserved
loop-field-preserved c =
    let fields = c.args.fields.now in
    let i = c.loop-field.field-index in
    let field = c.field-item.result in
    let size : c.len-length.result ≡ length field.bytes.items = c.len-length.ensures ∙ field.bytes.ok.0 in
    let more = sum_more fields i field (omega arith) c.field-item.is in
    let back : i + 1 - 1 ≡ i = omega arith in
    record {
      longest = c.max.ensures ∙ ap (λ (k : ℕ). max k c.len-length.result) c.loop-field.invariant.longest
          ∙ ap (max (fold max 0 (take i (lengths_of fields)))) size
          ∙ sym (longest_more fields i field (omega arith) c.field-item.is);
      last = rw back c.loop-field.invariant.total;
      total = omega (arith, more, size, c.loop-field.invariant.total);
      longest_in = omega (arith, c.max.ensures);
      last_in = omega arith;
      small = omega arith;
    }
