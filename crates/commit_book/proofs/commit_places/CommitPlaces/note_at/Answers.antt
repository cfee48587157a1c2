use Rattle.std.proofs.Common.{◌≡◌, Bool, true, false, cond, refl, sym, ◌∙◌}
use Rattle.std.specs.BTreeSet.{contains}
use Rattle.commit_book.specs.CommitPlaces.{commit_place}
use Rattle.commit_book.proofs.commit_places.CommitPlaces.note_at.Goals as goal

still : (here before : Bool) → before ≡ true → cond here true before ≡ true
still true before was = refl
still false before was = was

pub returns-clause-noted : goal.returns-clause-noted
returns-clause-noted c =
    (λ i. contains (λ p q. sym (c.places_are_by_parts.ensures p q) i) c.insert.new.self (commit_place c.args.name c.args.place))
    ∙ c.in_ok-insert.ensures.updates.1

pub returns-clause-kept : goal.returns-clause-kept
returns-clause-kept c n k was =
    let by_parts = c.places_are_by_parts.ensures in
    (λ i. contains (λ p q. sym (by_parts p q) i) c.insert.new.self (commit_place n k))
    ∙ c.in_ok-insert.ensures.updates.0 (commit_place n k)
    ∙ still _ _ ((λ i. contains (λ p q. by_parts p q i) c.args.self.now.noted (commit_place n k)) ∙ was)
