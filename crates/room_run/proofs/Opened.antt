-- Compilers at new desks, and when they have ended.
use Rattle.std.proofs.Common.{◌≡◌, ℕ, suc, ◌+◌, ◌<◌, ◌≤◌, List, [], ◌∷◌, ◌++◌, All, length, refl, sym, ap, ◌∙◌, subst, arith, ⊎_elim}
use Rattle.std.specs.Prelude.{slice_index_or}
use Rattle.std.proofs.lemmas.Bool.{cases_lt}
use Rattle.std.proofs.lemmas.List.{get_or_append_left, get_or_push, length-append, length-map, map-append}
use Rattle.text_spec.specs.declared.command.Command.{Command}
use Rattle.history_spec.specs.Served.{no_draft}
use Rattle.sessions.specs.SessionStates.{SessionState}
use Rattle.workroom.specs.Desks.{DeskState, RoomId}
use Rattle.workroom.specs.Rooms.{RoomState, new_desk}
use Rattle.room_run.specs.Compilers.{IsAtDesk}
use Rattle.room_run.specs.Rooms.{AreOpened, IsFresh, IsOpened, IsRun}
use Rattle.room_run.specs.declared.compiler.Compiler.{Compiler}

-- a session that has done nothing, at a new desk
pub new_at_desk : (room : RoomState) (d : DeskState) (s : SessionState) → d ≡ new_desk room → s.done ≡ [] → s.draft ≡ no_draft → s.lines ≡ [] → IsAtDesk d s
new_at_desk room d s desk done draft lines =
    subst (λ (e : DeskState). IsAtDesk e s) (sym desk) (record {
      entries = [];
      own = refl;
      served = record {
        asked_are = subst (λ cs. Rattle.history_spec.specs.Entries.AreAsked room.room.opening.head.nall 0
            (Rattle.history_spec.specs.Sessions.requests_of cs) []) (sym done) tt;
        base_is = refl;
        draft_is = draft ∙ sym (ap (Rattle.history_spec.specs.Served.drafted no_draft) done);
        replies = [];
        briefs = refl;
        lines_are = λ later p. lines ∙ sym (ap (λ cs. Rattle.history_spec.specs.ReportText.transcript_from
            (Rattle.history_spec.specs.EntriesReport.cell_told room.room.opening later) 0 0 cs []) done);
      };
    })

pub opened_more : (room : RoomId) (scripts : List (List Command)) (ks : List Compiler) (script : List Command) (k : Compiler)
    → AreOpened room scripts ks → IsOpened room (suc (length ks)) k → k.session.script ≡ script
    → AreOpened room (scripts ++ script ∷ []) (ks ++ k ∷ [])
opened_more room scripts ks script k all one is = record {
  scripts_are = map-append (λ (x : Compiler). x.session.script) ks (k ∷ []) ∙ (λ i. all.scripts_are i ++ is i ∷ []);
  each = λ i d within.
      let many = length-append ks (k ∷ []) in
      ⊎_elim (λ (low : i < length ks). subst (IsOpened room (suc i)) (sym (get_or_append_left ks (k ∷ []) d i low)) (all.each i d low))
      (λ (high : length ks ≤ i).
      let last : length ks ≡ i = omega (arith, within, many, high) in
      subst (IsOpened room (suc i)) (sym (get_or_push ks k d i last)) (subst (λ n. IsOpened room (suc n) k) last one))
      (cases_lt i (length ks));
}

pub opened_length : (room : RoomId) (scripts : List (List Command)) (ks : List Compiler) → AreOpened room scripts ks → length ks ≡ length scripts
opened_length room scripts ks all = sym (length-map ks (λ (k : Compiler). k.session.script)) ∙ ap length all.scripts_are

pub none_opened : (room : RoomId) → AreOpened room [] []
none_opened room = record { scripts_are = refl; each = λ i d within. absurd (omega (arith, within)) }

pub all_fresh : (room : RoomId) (scripts : List (List Command)) (ks : List Compiler) → AreOpened room scripts ks → All (IsFresh room) ks
all_fresh room scripts ks all = λ i d within. (all.each i d within).fresh

-- the room of each desk stays
pub all_in_room : (sticks : Type 0) (room : RoomId) (scripts : List (List Command)) (ks new : List Compiler) → AreOpened room scripts ks
    → length new ≡ length ks
    → ((i : ℕ) (d : Compiler) → i < length ks → IsRun sticks (slice_index_or ks i d) (slice_index_or new i d)) → All (λ (k : Compiler). k.desk.room ≡ room) new
all_in_room sticks room scripts ks new all many run = λ i d within.
    let there : i < length ks = omega (arith, within, many) in
    (run i d there).same.room ∙ (all.each i d there).fresh.room_is
