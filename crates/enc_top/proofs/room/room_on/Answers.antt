use Rattle.std.proofs.Common.{◌≡◌, ◌∙◌, Ok, Err, Global, length, map, string_bytes, subst, sym}
use Rattle.std.specs.Prelude.{IfSome, Vec}
use Rattle.std.proofs.lemmas.List.{length-map}
use Rattle.std.proofs.lemmas.Result.{err_from_is_err_and}
use Rattle.script_text.specs.declared.script.Script.{Script}
use Rattle.room_run.specs.Rooms.{IsRunEnd}
use Rattle.call_files.specs.Inputs.{IsReachedScript, ScriptsAre, Tells}
use Rattle.enc_top.proofs.RoomAnswers.{cell_ends, run_asked, scripts_end, stuck_asked}
use Rattle.enc_top.proofs.room.room_on.Goals as goal

pub returns-in_err-bench-clause-asked : goal.returns-in_err-bench-clause-asked
returns-in_err-bench-clause-asked g c =
    let refused = err_from_is_err_and c.from_residual.result c.from_residual.ensures.1 in
    rw (refused.1, refused.2) (cell_ends (g.M.Meet.sticks c.args.meet.now) c.args.cell.now c.args.out.now (map string_bytes c.args.names.now)
    (g.H.Shelf.files c.args.shelf.now) (g.H.Shelf.read_faults c.args.shelf.now) (g.H.Shelf.read_faults c.read_bench.new.shelf) c.in_err-bench.field-0.0
    c.in_err-bench.ensures.text c.in_err-bench.ensures.status c.in_err-bench.ensures.tells)

pub returns-in_err-scripts-clause-asked : goal.returns-in_err-scripts-clause-asked
returns-in_err-scripts-clause-asked g c =
    let scripts = map string_bytes c.args.names.now in
    let faults = g.H.Shelf.read_faults in
    let mid = faults c.read_bench.new.shelf in
    let after = faults c.scripts_in_files.new.shelf in
    let tells = subst (λ fs. Tells (λ (all : Vec Script Global). all.items) (ScriptsAre scripts)
    (λ fs n. IsReachedScript scripts fs n) fs mid after (Err c.in_err-scripts.field-0.0)) c.in_ok-bench.ensures.files
    c.in_err-scripts.ensures.tells in
    let refused = err_from_is_err_and c.from_residual-in_err-scripts.result c.from_residual-in_err-scripts.ensures.1 in
    rw (refused.1, refused.2) (scripts_end (g.M.Meet.sticks c.args.meet.now) c.args.cell.now c.args.out.now scripts (g.H.Shelf.files c.args.shelf.now)
    c.in_ok-bench.bench c.in_ok-bench.ensures.tells (faults c.args.shelf.now) mid after c.in_err-scripts.field-0.0
    c.in_ok-bench.ensures.read_faults c.in_err-scripts.ensures.kind c.in_err-scripts.ensures.status tells)

pub returns-in-Ok-clause-asked : goal.returns-in-Ok-clause-asked
returns-in-Ok-clause-asked g c =
    let scripts = map string_bytes c.args.names.now in
    let are = subst (λ fs. IfSome fs (λ fs. ScriptsAre scripts fs (Ok c.in_ok-scripts.scripts.items))) c.in_ok-bench.ensures.files
    c.in_ok-scripts.ensures.tells in
    run_asked (g.M.Meet.sticks c.args.meet.now) c.args.cell.now c.args.out.now scripts (g.H.Shelf.files c.args.shelf.now) c.in_ok-bench.bench
    c.in_ok-bench.ensures.tells c.in_ok-scripts.scripts.items are (g.H.Shelf.read_faults c.args.shelf.now)
    (g.H.Shelf.read_faults c.scripts_in_files.new.shelf) c.in-Ok.work c.in-Ok.ensures.run

pub returns-in-Err-Stuck-clause-asked : goal.returns-in-Err-Stuck-clause-asked
returns-in-Err-Stuck-clause-asked g c =
    let scripts = map string_bytes c.args.names.now in
    let sticks = g.M.Meet.sticks c.args.meet.now in
    let are = subst (λ fs. IfSome fs (λ fs. ScriptsAre scripts fs (Ok c.in_ok-scripts.scripts.items))) c.in_ok-bench.ensures.files
    c.in_ok-scripts.ensures.tells in
    let many : length c.in_ok-scripts.scripts.items ≡ length scripts =
    c.in_ok-scripts.ensures.many ∙ sym (length-map c.args.names.now string_bytes) in
    stuck_asked sticks c.args.cell.now c.args.out.now scripts (g.H.Shelf.files c.args.shelf.now) c.in_ok-bench.bench c.in_ok-bench.ensures.tells
    c.in_ok-scripts.scripts.items are (g.H.Shelf.read_faults c.args.shelf.now) (g.H.Shelf.read_faults c.scripts_in_files.new.shelf)
    c.in-Err-Stuck.stuck many (subst (IsRunEnd sticks c.in_ok-scripts.scripts.items) c.in-Err-Stuck.field-0-is c.in-Err-Stuck.ensures.end)
