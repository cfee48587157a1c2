-- Why a session ended before its next view or commit was answered.
use Rattle.std.proofs.Common.{◌≡◌, ℕ, Result, Ok, Err, refl, sym, subst, count_by}
use Rattle.std.specs.Prelude.{IfErr}
use Rattle.std.specs.Result.{IsErrAnd}
use Rattle.text_spec.specs.ScriptLines.{is_shared}
use Rattle.sessions.specs.SessionStates.{SessionState}
use Rattle.workroom.specs.Desks.{DeskState}
use Rattle.workroom.specs.declared.refusal.RoomRefusal.{RoomRefusal}
use Rattle.workroom.specs.declared.refusal.RoomRefusal.TheVariants.{LogFull, NoMemory}
use Rattle.room_run.specs.Compilers.{IsAtDesk, IsCut, IsHaltedAt, ended_by}
use Rattle.room_run.specs.declared.compiler.Ended.{Ended}
use Rattle.room_run.specs.declared.compiler.Ended.TheVariants as ended
use Rattle.room_run.proofs.Calls.{entered, uncalled}
use Rattle.room_run.proofs.Turns.{has_called}

-- what holds of each error that a `?` may hand on holds of the one that it does
pub handed_on : {A : Type 0} (sticks : Type 0) (serial : ℕ) (s : SessionState) (d : DeskState) (why : Ended) (r : Result A Ended)
    → IsErrAnd r (λ e. e ≡ why) → IsHaltedAt sticks serial s d why → IfErr r (IsHaltedAt sticks serial s d)
handed_on sticks serial s d why (Ok a) is halted = tt
handed_on sticks serial s d why (Err e) is halted = subst (IsHaltedAt sticks serial s d) (sym is) halted

pub before_all : (sticks : Type 0) (serial : ℕ) (s : SessionState) (d : DeskState) → IsAtDesk d s → IsHaltedAt sticks serial s d ended.NoMemory
before_all sticks serial s d a = record { halted = tt; few = (uncalled d).few (count_by is_shared s.done) (has_called d s a) }

pub cut_short : (sticks : Type 0) (serial : ℕ) (s : SessionState) (old new : DeskState) (why : RoomRefusal) → IsAtDesk old s
    → IsCut old new why → IsHaltedAt sticks serial s new (ended_by why)
cut_short sticks serial s old new LogFull a cut = record { halted = cut.full refl; few = cut.few (count_by is_shared s.done) (has_called old s a) }
cut_short sticks serial s old new (NoMemory entered) a cut = record { halted = tt; few = cut.few (count_by is_shared s.done) (has_called old s a) }
