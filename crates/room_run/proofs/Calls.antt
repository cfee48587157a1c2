-- What a call of a desk leaves of its own calls.
use Rattle.std.proofs.Common.{◌≡◌, ℕ, ◌+◌, Bool, true, false, List, [], ◌∷◌, ◌++◌, map, cond, Result, Ok, Err, sym, ap, ◌∙◌, arith}
use Rattle.std.proofs.Common.{length-append}
use Rattle.std.specs.Prelude.{IfErr, IfOk}
use Rattle.history_spec.specs.declared.entry.Asked.{Asked}
use Rattle.history_spec.specs.declared.entry.Entry.{Entry}
use Rattle.history_spec.specs.declared.reply.Reply.{Reply}
use Rattle.history_spec.specs.Entries.{base_told, brief_of, event_asked}
use Rattle.history_spec.specs.Sessions.{event_of}
use Rattle.room_laws.proofs.Interleaved.{same_number}
use Rattle.turn_gate.specs.Histories.{extended}
use Rattle.turn_gate.specs.declared.view.OwnList.{OwnList}
use Rattle.commit_book.specs.Books.{entry_of}
use Rattle.sessions.specs.Replays.{request_of}
use Rattle.sessions.specs.SessionStates.{SessionState}
use Rattle.sessions.specs.declared.session.Shared.{Shared}
use Rattle.workroom.specs.Desks.{DeskState, IsRoomRefusal, IsSameDesk, IsTurned, IsUnentered}
use Rattle.workroom.specs.declared.refusal.RoomRefusal.{RoomRefusal}
use Rattle.workroom.specs.declared.refusal.RoomRefusal.TheVariants.{LogFull, NoMemory}
use Rattle.room_run.specs.Compilers.{HasAtMost, IsAnswered, IsCut, own_list}

-- one call more stands in the own list
pub own_more : (n m : ℕ) (own own' : List (OwnList Entry)) (es : List Entry) (e : Entry) → own ≡ own_list n es ∷ []
    → own' ≡ map (extended n (e ∷ [])) own → m ≡ n → own' ≡ own_list m (es ++ e ∷ []) ∷ []
own_more n m own own' es e is was same =
    was
    ∙ ap (map (extended n (e ∷ []))) is
    ∙ ap (λ (b : Bool). cond b (own_list n (es ++ e ∷ [])) (own_list n es) ∷ []) (same_number n)
    ∙ ap (λ k. own_list k (es ++ e ∷ []) ∷ []) (sym same)

pub answered_ok : (r : Result Reply RoomRefusal) (old new : DeskState) (s : SessionState) (what : Shared) (asked : Asked)
    → event_asked asked ≡ event_of old.room.opening.head.nall old.base (request_of what s.draft)
    → IfOk r (λ reply. IsTurned old asked reply new) → IfOk r (λ reply. new.base ≡ base_told (brief_of reply) old.base) → IfOk r (IsAnswered old s what new)
answered_ok (Ok reply) old new s what asked event turned base = record { asked = asked; event = event; turned = turned; base = base }
answered_ok (Err why) old new s what asked event turned base = tt

kept : (old new : DeskState) (count : ℕ) → IsSameDesk old new → new.own ≡ old.own → HasAtMost count old → HasAtMost (count + 1) new
kept old new count same own h = record {
  entries = h.entries;
  own = own ∙ h.own ∙ ap (λ n. own_list n h.entries ∷ []) (sym same.number);
  few =
      let few = h.few in omega (arith, few);
}

pub entered : (old new : DeskState) (asked : Asked) (reply : Reply) (count : ℕ) → IsSameDesk old new → IsTurned old asked reply new
    → HasAtMost count old → HasAtMost (count + 1) new
entered old new asked reply count same turned h =
    let e : Entry = entry_of old.number asked (brief_of reply) in
    record {
      entries = h.entries ++ e ∷ [];
      own = own_more old.number new.number old.own new.own h.entries e h.own turned.own same.number;
      few = let few = h.few in let more = length-append h.entries (e ∷ []) in omega (arith, few, more);
    }

cut_by : (old new : DeskState) (asked : Asked) (why : RoomRefusal) → IsSameDesk old new → IsRoomRefusal old asked new why → IsCut old new why
cut_by old new asked LogFull same is = record { few = λ count h. kept old new count same is.0.own h; full = λ full. is.1 }
cut_by old new asked (NoMemory false) same is = record { few = λ count h. kept old new count same is.own h; full = λ full. absurd (cc full) }
cut_by old new asked (NoMemory true) same is = record {
  few = λ count h. entered old new asked is.reply count same is.turned h;
  full =
      λ full. absurd (cc full);
}

pub cut_err : (r : Result Reply RoomRefusal) (old new : DeskState) (asked : Asked) → IsSameDesk old new → IfErr r (IsRoomRefusal old asked new)
    → IfErr r (IsCut old new)
cut_err (Ok reply) old new asked same is = tt
cut_err (Err why) old new asked same is = cut_by old new asked why same is

unentered_by : (old new : DeskState) (why : RoomRefusal) → IsSameDesk old new → IsUnentered old new why → IsCut old new why
unentered_by old new LogFull same is = record { few = λ count h. kept old new count same is.0.own h; full = λ full. is.1 }
unentered_by old new (NoMemory false) same is = record { few = λ count h. kept old new count same is.own h; full = λ full. absurd (cc full) }
unentered_by old new (NoMemory true) same is = absurd is

pub unentered_err : (r : Result Reply RoomRefusal) (old new : DeskState) → IsSameDesk old new → IfErr r (IsUnentered old new) → IfErr r (IsCut old new)
unentered_err (Ok reply) old new same is = tt
unentered_err (Err why) old new same is = unentered_by old new why same is

-- a call that wasn't made
pub uncalled : (d : DeskState) → IsCut d d (NoMemory false)
uncalled d = record {
  few = λ count h. record { entries = h.entries; own = h.own; few = let few = h.few in omega (arith, few) };
  full = λ full. absurd (cc full);
}
