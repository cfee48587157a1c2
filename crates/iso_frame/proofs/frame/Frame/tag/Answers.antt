use Rattle.std.proofs.Common.{◌∙◌, ap, sym, Some, arith}
use Rattle.std.specs.Option.{option_map}
use Rattle.frame_spec.specs.RecordFrame.{Field}
use Rattle.iso_frame.proofs.Fields.{length-fields_at, slice_get-fields_at}
use Rattle.iso_frame.proofs.frame.Frame.tag.Goals as goal

pub tag_of-requires-clause-below : goal.tag_of-requires-clause-below
tag_of-requires-clause-below c = let f = c.self.inside in
    let size = rw (← c.self.view_is) at c.requires in
    let all = length-fields_at f.bytes.now f.at in
    let count = c.self.invariant.count_is in
    omega (arith, size, all, count)

pub returns : goal.returns
returns c = let f = c.self.inside in
    let size = rw (← c.self.view_is) at c.requires in
    let all = length-fields_at f.bytes.now f.at in
    let count = c.self.invariant.count_is in
    rw (← c.self.view_is)
    (ap (option_map (λ (x : Field). x.tag)) (slice_get-fields_at f.bytes.now f.at c.args.k (omega (arith, size, all, count)))
    ∙ ap Some (sym c.tag_of.ensures))
