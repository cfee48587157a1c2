use Rattle.std.proofs.Common.{◌≡◌, ◌&&◌, ◌||◌, true, take, ap, sym, ◌∙◌}
use Rattle.std.proofs.Math.Bool.{or-true}
use Rattle.s57_types.specs.declared.name.Kind.TheVariants.{Vi}
use Rattle.cell_spec.specs.declared.key.Key.{Key}
use Rattle.cell_spec.specs.declared.key.Key.TheVariants.{Name}
use Rattle.cell_spec.specs.Names.{same_subject}
use Rattle.depend_map.specs.Readers.{has_pair, holds_key}
use Rattle.depend_map.proofs.Pairs.{one_key, one_subject}
use Rattle.depend_map.proofs.Steps.{put, there}
use Rattle.depend_map.proofs.set.put_gained.Goals as goal
use Rattle.depend_map.proofs.set.put_gained.Goals.{then-not-has_key+in_ok-put, else-not-has_key}

abbrev default : Key
default = Name (record { kind = Vi; id = 0 })

pub loop-key-preserved : goal.loop-key-preserved
loop-key-preserved c = λ k s.
    let subject = c.args.subject in
    let keys = c.args.new.now in
    let was = has_pair c.args.readers.now k s in
    let before = has_pair c.loop-key.readers k s in
    let after = has_pair c.if-not-has_key.readers k s in
    elim c.if-not-has_key.branch [
      | then-not-has_key+in_ok-put w ↦
          put subject keys c.loop-key.key-index default k s was before after c.loop-key-test.true
          (c.loop-key.invariant k s) (ap (λ pairs. has_pair pairs k s) w.readers-is ∙ w.in_ok-put.ensures k s)
      | else-not-has_key w ↦
          ap (λ pairs. has_pair pairs k s) w.readers-is
          ∙ there subject keys c.loop-key.key-index default k s was before after c.loop-key-test.true (c.loop-key.invariant k s)
          (λ e f.
          let stood : was ≡ true =
          (λ i. has_pair c.args.readers.now (one_key k _ e i) (sym (one_subject subject s f) i))
          ∙ c.requires.there _ (sym c.has_key.ensures ∙ w.if-not-has_key.false) in
          c.loop-key.invariant k s ∙ ap (λ b. (same_subject subject s && holds_key (take c.loop-key.key-index keys) k) || b) stood ∙ or-true _)
    ]
