use Rattle.std.proofs.Common.{[], length, suc, sym, subst}
use Rattle.sessions.specs.Replays.{AreEditors, scripts_of}
use Rattle.std.proofs.Common.{◌≡◌, ◌++◌, ◌∷◌}
use Rattle.sessions.proofs.Numbered.{editors_more, scripts_more}
use Rattle.sessions.proofs.run.open_editors.Goals as goal

pub loop-script-preserved : goal.loop-script-preserved
loop-script-preserved c =
    let editors = c.loop-script.editors.items in
    let before = c.loop-script.invariant in
    let one = c.in_ok-make.field-0 in
    let pushed = c.in_ok-push.ensures.items in
    record {
      scripts = subst (λ all. scripts_of all ≡ c.loop-script.yielded ++ c.in-Some.script ∷ []) (sym pushed)
          (scripts_more editors c.loop-script.yielded one c.in-Some.script before.scripts c.in_ok-make.ensures.script);
      each = subst (AreEditors c.args.book.now.opening []) (sym pushed)
          (editors_more c.args.book.now.opening [] editors one before.each (c.in_ok-make.ensures.opened (suc (length editors)) c.requires));
    }
