use Rattle.std.proofs.Common.{◌∙◌, arith, refl, take, drop}
use Rattle.std.proofs.Math.Seq.{take-add}
use Rattle.std.proofs.lemmas.List.{take_rest, length-take, length-drop}
use Rattle.whole_files.proofs.Puts.{told_more}
use Rattle.whole_files.proofs.put.put_all.Goals as goal

pub loop-done-preserved : goal.loop-done-preserved
loop-done-preserved g c = let text = c.args.text.now in let done = c.loop-done.done in let n = c.in_ok-done.field-0 in
    let most = simp (length-take, length-drop) at c.in_ok-done.ensures.took.most in
    let took = rw (take_rest text done) at c.in_ok-done.ensures.ok in
    record {
      in_range = omega (arith, most);
      told = rw (take-add done n text) (told_more (take done text) (take n (drop done text)) (g.O.Sink.written c.args.out.now)
          (g.O.Sink.written c.loop-done.out) (g.O.Sink.written c.put.new.self)
          c.loop-done.invariant.told c.put.ensures.untold took);
      untold = λ none. c.put.ensures.untold (c.loop-done.invariant.untold none);
      faults = c.in_ok-done.ensures.faults.kept refl ∙ c.loop-done.invariant.faults;
    }
