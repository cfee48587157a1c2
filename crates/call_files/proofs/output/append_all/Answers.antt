use Rattle.std.proofs.Common.{arith, refl, take, drop, ◌∙◌}
use Rattle.std.proofs.Math.Seq.{take-add}
use Rattle.std.proofs.lemmas.List.{take_rest, length-take, length-drop}
use Rattle.call_files.proofs.FileWrites.{appended_more}
use Rattle.call_files.proofs.output.append_all.Goals as goal

pub loop-done-preserved : goal.loop-done-preserved
loop-done-preserved g c = let bytes = c.args.bytes.now in let done = c.loop-done.done in let n = c.in_ok-done.field-0 in
    let files = g.H.Shelf.files in
    let most = simp (length-take, length-drop) at c.in_ok-done.ensures.took.most in
    let appended = rw (take_rest bytes done) at c.in_ok-done.ensures.ok in
    record {
      in_range = omega (arith, most);
      told = rw (take-add done n bytes) (appended_more c.args.name.now (take done bytes) (take n (drop done bytes)) (files c.args.shelf.now)
          (files c.loop-done.shelf) (files c.append.new.self)
          c.loop-done.invariant.told c.append.ensures.untold appended);
      untold = λ none. c.append.ensures.untold (c.loop-done.invariant.untold none);
      write_faults = c.in_ok-done.ensures.write_faults.kept refl ∙ c.loop-done.invariant.write_faults;
      read_faults = c.append.ensures.read_faults ∙ c.loop-done.invariant.read_faults;
    }
