use Rattle.std.proofs.Common.{◌≡◌, suc, ◌+◌, ◌++◌, ◌∷◌, [], length, sym, ap, ◌∙◌, subst, arith, length-append}
use Rattle.workroom.specs.Desks.{DeskState}
use Rattle.workroom.specs.Rooms.{RoomState}
use Rattle.room_run.specs.Rooms.{AreOpened}
use Rattle.room_run.proofs.Opened.{new_at_desk, opened_length, opened_more}
use Rattle.room_run.proofs.run.open_all.Goals as goal

pub loop-script-preserved : goal.loop-script-preserved
loop-script-preserved c =
    let room = c.args.room.now.room in
    let yielded = c.loop-script.yielded in
    let ks = c.loop-script.compilers.items in
    let script = c.in-Some.script in
    let opened = c.loop-script.invariant.opened in
    let here : RoomState = c.loop-script.room in
    let room_is = c.loop-script.invariant.room in
    let desk_is = c.in-Ok.ensures.ok in
    let count = length-append yielded (script ∷ []) in
    let many : length ks ≡ length yielded = opened_length room yielded ks opened in
    let desks : here.desks ≡ length yielded = ap (λ (r : RoomState). r.desks) room_is in
    let number : c.in-Ok.desk.number ≡ suc (length ks) = ap (λ (d : DeskState). d.number) desk_is ∙ omega (arith, many, desks) in
    record {
      room = c.in-Ok.ensures.more ∙ ap (λ (r : RoomState). record r { desks = r.desks + 1 }) room_is
          ∙ ap (λ n. record c.args.room.now { desks = n }) (omega (arith, count));
      opened = subst (AreOpened room (yielded ++ script ∷ [])) (sym c.in_ok-push.ensures.items)
          (opened_more room yielded ks script _ opened
          (record {
            fresh = record {
              room_is = ap (λ (d : DeskState). d.room) desk_is ∙ ap (λ (r : RoomState). r.room) room_is;
              at_desk = new_at_desk here c.in-Ok.desk c.make.result desk_is c.make.ensures.done c.make.ensures.draft c.make.ensures.lines;
              fresh = c.make.ensures.done;
            };
            number_is = number;
          }) c.make.ensures.script);
    }
