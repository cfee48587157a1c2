-- A session at its desk, before and after its next view or commit.
use mathlib.Core.List.{IsPrefix}
use Rattle.std.proofs.Common.{◌≡◌, ◌+◌, ◌<◌, List, [], ◌∷◌, ◌++◌, length, count_by, refl, sym, ap, ◌∙◌, subst, arith}
use Rattle.std.specs.Prelude.{Option, None}
use Rattle.s57_types.specs.declared.cell.Cell.{Cell}
use Rattle.text_spec.specs.ScriptLines.{is_shared}
use Rattle.history_spec.specs.declared.entry.Entry.{Entry}
use Rattle.history_spec.specs.declared.reply.Reply.{Reply}
use Rattle.history_spec.specs.Entries.{base_told, brief_of}
use Rattle.history_spec.specs.EntriesReport.{cell_told}
use Rattle.history_spec.specs.ReportText.{reply_line}
use Rattle.history_spec.specs.Served.{IsServed, draft_after}
use Rattle.room_laws.proofs.Served.{shared_served}
use Rattle.turn_gate.proofs.Prefixes.{prefix_trans}
use Rattle.commit_book.specs.Books.{entry_of}
use Rattle.sessions.specs.Replays.{request_of}
use Rattle.sessions.specs.SessionStates.{IsNext, SessionState, StaysServed, shared_command}
use Rattle.sessions.specs.declared.session.Shared.{Shared}
use Rattle.sessions.specs.declared.session.Shared.TheVariants as shared
use Rattle.sessions.proofs.Editors.{asks, at_end, count_append, not_at_end, served_count, shared_is}
use Rattle.workroom.specs.Desks.{DeskState, IsSameDesk}
use Rattle.room_run.specs.Compilers.{HasAtMost, IsAnswered, IsAtDesk, IsOneFurther}
use Rattle.room_run.proofs.Calls.{own_more}

-- as many calls as views and commits that are done
pub called : (d : DeskState) (s : SessionState) (a : IsAtDesk d s) → length a.entries ≡ count_by is_shared s.done
called d s a = served_count d.room.opening d.seen a.entries d.base s a.served

pub has_called : (d : DeskState) (s : SessionState) → IsAtDesk d s → HasAtMost (count_by is_shared s.done) d
has_called d s a = record { entries = a.entries; own = a.own; few = let count = called d s a in omega (arith, count) }

-- commands that no other session sees
pub further : (d : DeskState) (copy : Cell) (old new : SessionState) → StaysServed d.base copy old new
    → ((later : List Entry) → IsPrefix d.seen later → cell_told d.room.opening later d.base ≡ copy) → IsAtDesk d old → IsAtDesk d new
further d copy old new stays copy_is a = record { entries = a.entries; own = a.own; served = stays d.room.opening d.seen a.entries a.served copy_is }

-- as many views and commits are done before and after them
pub as_many : (d : DeskState) (copy : Cell) (old new : SessionState) (stays : StaysServed d.base copy old new)
    (stands : (later : List Entry) → IsPrefix d.seen later → cell_told d.room.opening later d.base ≡ copy) (a : IsAtDesk d old)
    → count_by is_shared new.done ≡ count_by is_shared old.done
unfolding further
as_many d copy old new stays stands a = sym (called d new (further d copy old new stays stands a)) ∙ called d old a

-- one that was answered
pub answered_once : (old new : DeskState) (s t : SessionState) (what : Shared) (reply : Reply) → IsAtDesk old s → IsSameDesk old new
    → IsAnswered old s what new reply
    → t.done ≡ s.done ++ shared_command what ∷ [] → t.draft ≡ draft_after (shared_command what) s.draft → t.lines ≡ s.lines ++ reply_line reply
    → IsOneFurther s new t
answered_once old new s t what reply a same answer done draft lines =
    let e : Entry = entry_of old.number answer.asked (brief_of reply) in
    let turned = answer.turned in
    let c = old.room.opening in
    let grown = prefix_trans old.seen turned.before new.seen turned.begins (e ∷ [], sym turned.seen) in
    let served = shared_served c old.seen a.entries old.base s.done s.draft s.lines a.served (shared_command what) (shared_is what)
    (request_of what s.draft) (asks what s.draft) new.seen e reply grown answer.event refl in
    let all = a.entries ++ e ∷ [] in
    record {
      at_desk = record {
        entries = all;
        own = own_more old.number new.number old.own new.own a.entries e a.own turned.own same.number;
        served = subst (λ room. IsServed room.opening new.seen all new.base t.done t.draft t.lines) (sym same.room)
            (subst (λ b. IsServed c new.seen all b t.done t.draft t.lines) (sym answer.base)
            (subst (λ x. IsServed c new.seen all (base_told (brief_of reply) old.base) x t.draft t.lines) (sym done)
            (subst (λ x. IsServed c new.seen all (base_told (brief_of reply) old.base) (s.done ++ shared_command what ∷ []) x t.lines) (sym draft)
            (subst (λ x. IsServed c new.seen all (base_told (brief_of reply) old.base) (s.done ++ shared_command what ∷ [])
            (draft_after (shared_command what) s.draft) x) (sym lines) served))));
      };
      more = ap (count_by is_shared) done ∙ count_append s.done (shared_command what ∷ []) ∙ ap (λ n. count_by is_shared s.done + n) (one what);
    }
  where
    one : (w : Shared) → count_by is_shared (shared_command w ∷ []) ≡ 1
    one shared.View = refl
    one shared.Commit = refl

-- a session that has views and commits left isn't at its end
pub has_next : (d : DeskState) (copy : Cell) (old new : SessionState) → StaysServed d.base copy old new
    → ((later : List Entry) → IsPrefix d.seen later → cell_told d.room.opening later d.base ≡ copy) → IsAtDesk d old
    → new.script ≡ old.script → count_by is_shared old.done < count_by is_shared old.script → IsNext new None → ⊥
has_next d copy old new stays stands a same left next =
    let many = as_many d copy old new stays stands a in
    let all = ap (count_by is_shared) same in
    not_at_end new next (omega (arith, many, all, left))

-- and one that has none is, after its last commands
pub is_done : (d : DeskState) (copy : Cell) (old new : SessionState) (what : Option Shared) → StaysServed d.base copy old new
    → ((later : List Entry) → IsPrefix d.seen later → cell_told d.room.opening later d.base ≡ copy) → IsAtDesk d old
    → new.script ≡ old.script → count_by is_shared old.done ≡ count_by is_shared old.script → IsNext new what → IsAtDesk d new × (new.done ≡ old.script)
is_done d copy old new what stays stands a same all next =
    let many = as_many d copy old new stays stands a in
    let script = ap (count_by is_shared) same in
    (further d copy old new stays stands a, at_end new what next (omega (arith, many, all, script)) ∙ same)
