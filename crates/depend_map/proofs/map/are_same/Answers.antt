use Rattle.std.proofs.Common.{sym, ap, ◌∙◌}
use Rattle.std.specs.Cmp.{Equal-is, tied_itself}
use Rattle.std.specs.Ordering.{is_eq}
use Rattle.std.proofs.lemmas.Slice.Eq.{slice_eq-Decides}
use Rattle.depend_map.proofs.map.are_same.Goals as goal

pub returns : goal.returns
returns g c =
    slice_eq-Decides (λ a b. (
      λ same. c.requires.exact a b ((Equal-is (g.T.Ord.cmp a b)).0 (sym (g.met.T.Ord.matches_eq a b) ∙ same)),
      λ is. g.met.T.Ord.matches_eq a b ∙ ap (λ x. is_eq (g.T.Ord.cmp a x)) (sym is) ∙ ap is_eq (tied_itself g.met.T.Ord.total a),
    )) c.args.items.now c.args.others.now c.eq.result c.eq.ensures
