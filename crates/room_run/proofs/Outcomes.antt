-- What is left of the sessions, one after the other.
use Rattle.std.proofs.Common.{◌≡◌, ℕ, ◌<◌, List, [], ◌∷◌, ◌++◌, length, get_or, sym, ap, ◌∙◌}
use Rattle.std.proofs.lemmas.List.{get_or_default, map-append}
use Rattle.std.proofs.lemmas.List.Elements.{All-push}
use Rattle.enc_outside.specs.declared.meet.Stuck.{Stuck}
use Rattle.room_run.specs.Rooms.{DoneWith, IsOneOf}
use Rattle.room_run.specs.declared.compiler.Ended.TheVariants as ended
use Rattle.room_run.specs.declared.gather.Outcome.{Outcome}
use Rattle.room_run.specs.declared.run.RunEnd.TheVariants as end

pub done_more : (outcomes : List Outcome) (texts : List (List ℕ)) (o : Outcome) (text : List ℕ) → DoneWith outcomes texts
    → o.ended ≡ ended.Done → text ≡ o.session.lines → DoneWith (outcomes ++ o ∷ []) (texts ++ text ∷ [])
done_more outcomes texts o text all done is = record {
  done = All-push (λ (x : Outcome). x.ended ≡ ended.Done) outcomes o all.done done;
  texts_are = (λ i. all.texts_are i ++ is i ∷ []) ∙ sym (map-append (λ (x : Outcome). x.session.lines) outcomes (o ∷ []));
}

pub one_of : (outcomes : List Outcome) (k : ℕ) (o : Outcome) (stuck : Stuck) → k < length outcomes → o ≡ get_or outcomes k o
    → o.ended ≡ ended.Stuck stuck → IsOneOf outcomes (end.Stuck stuck)
one_of outcomes k o stuck within is ended = (k, within, λ d. ap (λ (x : Outcome). x.ended) (get_or_default outcomes k d o within ∙ sym is) ∙ ended)
