use Rattle.std.proofs.Common.{◌≡◌, All, List, [], ◌∷◌, map, refl, sym, ap, ◌∙◌, subst}
use Rattle.std.proofs.lemmas.List.Elements.{All-head, All-push}
use Rattle.room_run.specs.Rooms.{IsHeldIn, outcome_of}
use Rattle.room_run.specs.declared.compiler.Compiler.{Compiler}
use Rattle.room_run.proofs.Merged.{left_all, outcomes_more, right_all}
use Rattle.room_run.proofs.gather.gather.Goals as goal

pub merge_all-requires-clause-rooms : goal.merge_all-requires-clause-rooms
merge_all-requires-clause-rooms g c =
    let IsOfRoom : Compiler → Type 0 = λ k. k.desk.room ≡ c.args.room.room in
    left_all IsOfRoom c.pop.new.self.items (c.in-Some.last ∷ []) (subst (All IsOfRoom) c.in-Some.ensures.items c.requires.rooms)

pub close-book-requires : goal.close-book-requires
close-book-requires g c =
    let IsOfRoom : Compiler → Type 0 = λ k. k.desk.room ≡ c.args.room.room in
    let all = subst (All IsOfRoom) c.in-Some.ensures.items c.requires.rooms in
    let last = c.in-Some.last in
    record { room = c.in_ok-outcomes.ensures.room ∙ All-head IsOfRoom last [] (right_all IsOfRoom c.pop.new.self.items (last ∷ []) all) }

pub returns : goal.returns
returns g c =
    let entries = c.close-book.result.entries in
    let others = c.pop.new.self.items in
    let last = c.in-Some.last in
    let whole = sym c.in-Some.ensures.items in
    let held = c.in_ok-outcomes.ensures.keeps entries (record { begins = c.close-book.ensures.begins; exact = c.close-book.ensures.own }) in
    record {
      opening = c.close-book.ensures.opening;
      told = c.known.ensures.told;
      numbers = c.close-book.ensures.numbers;
      held = subst (λ (ks : List Compiler). All (λ (k : Compiler). IsHeldIn entries k.desk) ks) whole
          (All-push (λ (k : Compiler). IsHeldIn entries k.desk) others last held.1 held.0);
      outcomes_are = c.in_ok-push.ensures.items ∙ outcomes_more c.in_ok-outcomes.outcomes.items others last
          (outcome_of last) c.in_ok-outcomes.ensures.outcomes refl ∙ ap (map outcome_of) whole;
    }
