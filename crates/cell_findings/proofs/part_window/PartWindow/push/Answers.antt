use Rattle.std.proofs.Common.{◌++◌, ◌∙◌, All, [], ◌∷◌, ap, subst, sym}
use Rattle.std.proofs.lemmas.List.Elements.{All-append, All-cons, All-nil}
use Rattle.check_pairs.specs.Parts.{IsPart}
use Rattle.cell_findings.specs.Near.{leaves_at}
use Rattle.cell_findings.proofs.part_window.PartWindow.push.Goals as goal

pub returns-clause-parts : goal.returns-clause-parts
returns-clause-parts g c =
    let are = IsPart c.args.look.now in
    let part = c.in_ok-part.part in
    subst (All are) (sym c.in_ok-push.ensures.items)
    (All-append are c.args.self.now.parts.items (part ∷ []) c.requires.parts (All-cons are part [] c.in_ok-part.ensures.part (All-nil are)))

pub returns-clause-leaves : goal.returns-clause-leaves
returns-clause-leaves g c =
    c.in_ok-push_leaf.ensures c.args.look.now c.in_ok-part.ensures.part
    ∙ ap (λ n. c.args.self.now.leaves.items ++ leaves_at c.args.look.now n) c.in_ok-part.ensures.named
