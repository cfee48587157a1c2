use Rattle.std.proofs.Common.{◌≡◌, ℕ, ◌≤◌, refl, ap, ◌∙◌, arith}
use Rattle.std.proofs.lemmas.Result.{err_from_is_err_and}
use Rattle.workroom.specs.Rooms.{RoomState}
use Rattle.room_run.proofs.Ends.{all_held, first_of, none_full, run_end}
use Rattle.room_run.proofs.Opened.{opened_length}
use Rattle.room_run.proofs.run.run_sessions.Goals as goal

pub transcripts_of-requires : goal.transcripts_of-requires
transcripts_of-requires g c =
    none_full (g.M.Meet.sticks c.args.meet.now) c.open_all.new.room c.args.room.room c.args.scripts.items c.in_ok-compilers.compilers.items
    c.run_all.new.compilers.items c.in_ok-book.book c.in_ok-book.outcomes.items
    c.in_ok-compilers.ensures.opened c.run_all.ensures.len c.run_all.ensures.run c.in_ok-book.ensures
    (ap (λ (r : RoomState). r.desks) c.in_ok-compilers.ensures.room) c.requires.short c.requires.few

-- there is a session at the end, since none is gone
some_left : (a b d : ℕ) → 1 ≤ a → d ≡ b → b ≡ a → 1 ≤ d
some_left a b d some kept is = omega arith

pub returns-in_err-transcripts-clause-end : goal.returns-in_err-transcripts-clause-end
returns-in_err-transcripts-clause-end g c =
    let ks = c.in_ok-compilers.compilers.items in let new = c.run_all.new.compilers.items in
    let refused = err_from_is_err_and c.from_residual-in_err-transcripts.result c.from_residual-in_err-transcripts.ensures.1 in
    rw (refused.1, refused.2) (run_end (g.M.Meet.sticks c.args.meet.now) c.open_all.new.room c.args.room.room c.args.scripts.items ks new
    c.in_ok-book.book c.in_ok-book.outcomes.items c.in_ok-compilers.ensures.opened c.run_all.ensures.len c.run_all.ensures.run c.in_ok-book.ensures
    (ap (λ (r : RoomState). r.desks) c.in_ok-compilers.ensures.room) c.requires.short c.requires.few
    (first_of new (some_left _ _ _ c.requires.some c.run_all.ensures.len (opened_length c.args.room.room c.args.scripts.items ks
    c.in_ok-compilers.ensures.opened))) c.in_err-transcripts.field-0.0 c.in_err-transcripts.ensures.end)

pub returns-clause-held : goal.returns-clause-held
returns-clause-held g c =
    let ks = c.in_ok-compilers.compilers.items in let new = c.run_all.new.compilers.items in
    all_held (g.M.Meet.sticks c.args.meet.now) c.open_all.new.room c.args.room.room c.args.scripts.items ks new c.in_ok-book.book c.in_ok-book.outcomes.items
    c.in_ok-compilers.ensures.opened c.run_all.ensures.len c.run_all.ensures.run c.in_ok-book.ensures
    (ap (λ (r : RoomState). r.desks) c.in_ok-compilers.ensures.room) c.requires.short c.requires.few
    c.in_ok-transcripts.transcripts.items c.in_ok-transcripts.ensures.done
    (first_of new (some_left _ _ _ c.requires.some c.run_all.ensures.len (opened_length c.args.room.room c.args.scripts.items ks
    c.in_ok-compilers.ensures.opened))) _ refl refl
    (c.in_ok-book.ensures.opening ∙ ap (λ (r : RoomState). r.room.opening) c.in_ok-compilers.ensures.room)
