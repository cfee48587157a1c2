use Rattle.std.proofs.Common.{◌≡◌, ◌∙◌, ◌++◌, sym, ap, length, ◌+◌, drop, arith, ℕ, List}
use Rattle.frame_spec.specs.WrittenRecord.{digits, directory_entries}
use Rattle.frame_write.specs.OutFields.{fields_of}
use Rattle.frame_write.proofs.Steps.{sum_more, entries_more, appended, front_more}
use Rattle.frame_write.proofs.write.push_directory.Goals as goal

pub loop-field-preserved : goal.loop-field-preserved
loop-field-preserved c =
    let fields = c.args.fields.now in
    let i = c.loop-field.field-index in
    let field = c.field-item.result in
    let m = c.args.layout.now.length_digits in
    let n = c.args.layout.now.position_digits in
    let out : List ℕ = c.loop-field.out.items in
    let rest : List ℕ = directory_entries m n (c.loop-field.position + length field.bytes.items) (drop (i + 1) (fields_of fields)) in
    let more = sum_more fields i field (omega arith) c.field-item.is in
    let here : c.len-position.result ≡ length field.bytes.items = c.len-position.ensures ∙ field.bytes.ok.0 in
    let size : c.len.result ≡ length field.bytes.items = c.len.ensures ∙ field.bytes.ok.0 in
    record {
      position = omega (arith, more, here, c.loop-field.invariant.position);
      front = front_more _ _ _ _ (front_more _ _ _ _ (front_more _ _ _ _ c.loop-field.invariant.front c.in_ok-extend_from_slice.ensures.items)
          c.in_ok-push_digits.ensures.ok) c.in_ok-push_digits-2.ensures.ok;
      rest = rw here (
          appended out _ _ _ field.tag (digits m (length field.bytes.items)) (digits n c.loop-field.position) rest
          c.in_ok-extend_from_slice.ensures.items (c.in_ok-push_digits.ensures.ok
          ∙ ap (λ (k : ℕ). c.extend_from_slice.new.self.items ++ digits m k) size) c.in_ok-push_digits-2.ensures.ok
          ∙ ap (λ (x : List ℕ). out ++ x) (sym (entries_more m n c.loop-field.position fields i field (omega arith) c.field-item.is))
          ∙ c.loop-field.invariant.rest
          );
    }
