use Rattle.std.proofs.Common.{◌++◌, ◌∷◌, [], sym, ◌∙◌}
use Rattle.cell_make.specs.GeneratedScripts.{generated_script}
use Rattle.cell_make.proofs.Ranges.{scripts_more}
use Rattle.cell_make.proofs.script.make_scripts.Goals as goal

pub loop-session-preserved : goal.loop-session-preserved
loop-session-preserved c =
    let made = c.of_vec.ensures ∙ c.in_ok-commands.ensures in
    c.in_ok-push.ensures.items
    ∙ (λ i. c.loop-session.invariant i ++ made i ∷ [])
    ∙ sym (scripts_more (generated_script c.args.n) c.loop-session.session)
