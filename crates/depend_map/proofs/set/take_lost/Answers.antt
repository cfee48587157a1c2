use Rattle.std.proofs.Common.{sym, ap, ◌∙◌}
use Rattle.s57_types.specs.declared.name.Kind.TheVariants.{Vi}
use Rattle.cell_spec.specs.declared.key.Key.{Key}
use Rattle.cell_spec.specs.declared.key.Key.TheVariants.{Name}
use Rattle.depend_map.specs.Readers.{has_pair}
use Rattle.depend_map.proofs.Steps.{stays, taken}
use Rattle.depend_map.proofs.set.take_lost.Goals as goal
use Rattle.depend_map.proofs.set.take_lost.Goals.{then-not-has_key+in_ok-take, else-not-has_key}

abbrev default : Key
default = Name (record { kind = Vi; id = 0 })

pub loop-key-preserved : goal.loop-key-preserved
loop-key-preserved c = λ k s.
    let new = c.args.new.now in
    let was = has_pair c.args.readers.now k s in
    let before = has_pair c.loop-key.readers k s in
    let after = has_pair c.if-not-has_key.readers k s in
    elim c.if-not-has_key.branch [
      | then-not-has_key+in_ok-take w ↦
          taken c.args.subject c.args.old.now c.loop-key.key-index default k s was before after c.loop-key-test.true new
          (sym c.has_key.ensures ∙ w.if-not-has_key.true) (c.loop-key.invariant k s) (ap (λ pairs. has_pair pairs k s) w.readers-is ∙ w.in_ok-take.ensures k s)
      | else-not-has_key w ↦
          ap (λ pairs. has_pair pairs k s) w.readers-is
          ∙ stays c.args.subject c.args.old.now c.loop-key.key-index default k s was before after c.loop-key-test.true new
          (sym c.has_key.ensures ∙ w.if-not-has_key.false) (c.loop-key.invariant k s)
    ]
