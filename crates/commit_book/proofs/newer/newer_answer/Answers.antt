use Rattle.std.proofs.Common.{◌+◌, length, refl, sym, subst, ◌∙◌}
use Rattle.std.proofs.lemmas.Option.{slice_get_past, slice_get_read}
use Rattle.commit_book.specs.CommitPlaces.{IsFirstPlace}
use Rattle.commit_book.proofs.Clashes.{clashes_at, first_place_answers, none_past, passes_at}
use Rattle.commit_book.proofs.newer.newer_answer.Goals as goal

pub loop-commit-init : goal.loop-commit-init
loop-commit-init c =
    let set = c.args.set.now in
    record {
      answer = first_place_answers set.edits set.guards c.args.places.now c.args.accepted.now c.requires.noted c.args.base (length c.args.accepted.now)
          c.first_place-place.result
          (subst (λ names. IsFirstPlace c.args.places.now names c.args.base (length c.args.accepted.now) c.first_place-place.result) c.claims.ensures
          c.first_place-place.ensures);
      within = c.first_place-place.ensures.to_is;
    }

pub returns-in-Some-2-clause-same : goal.returns-in-Some-2-clause-same
returns-in-Some-2-clause-same c =
    let set = c.args.set.now in
    let found = c.in-Some.ensures.lookup in
    let there = slice_get_read c.args.accepted.now (length c.args.accepted.now) c.loop-commit.place c.in-Some.commit.now refl found.3.0 found.1 in
    clashes_at set.edits set.guards c.args.places.now c.args.accepted.now c.loop-commit.place c.in-Some.commit.now c.in-Some-2.reply
    there (sym c.in-Some-2.is ∙ c.in_ok-reply.ensures.same)
    ∙ c.loop-commit.invariant.answer

pub loop-commit-preserved : goal.loop-commit-preserved
loop-commit-preserved c =
    let set = c.args.set.now in
    let found = c.in-Some.ensures.lookup in
    let there = slice_get_read c.args.accepted.now (length c.args.accepted.now) c.loop-commit.place c.in-Some.commit.now refl found.3.0 found.1 in
    record {
      answer = first_place_answers set.edits set.guards c.args.places.now c.args.accepted.now c.requires.noted (c.loop-commit.place + 1)
          (length c.args.accepted.now) c.first_place-place-in-Some.result
          (subst (λ names. IsFirstPlace c.args.places.now names (c.loop-commit.place + 1) (length c.args.accepted.now)
          c.first_place-place-in-Some.result) c.claims-in-Some.ensures
          c.first_place-place-in-Some.ensures)
          ∙ passes_at set.edits set.guards c.args.places.now c.args.accepted.now c.loop-commit.place c.in-Some.commit.now
          there (sym c.in_default-2.is ∙ c.in_ok-reply.ensures.same)
          ∙ c.loop-commit.invariant.answer;
      within = c.first_place-place-in-Some.ensures.to_is;
    }

pub returns-clause-same : goal.returns-clause-same
returns-clause-same c =
    let set = c.args.set.now in
    none_past set.edits set.guards c.args.places.now c.args.accepted.now c.loop-commit.place
    (slice_get_past c.args.accepted.now c.loop-commit.place c.in_default.ensures.lookup.3)
    ∙ c.loop-commit.invariant.answer
