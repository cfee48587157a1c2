use denote.Param.Send.{IsSync, sendable}
use Rattle.std.specs.contracts.alloc.Global as global
use Rattle.std.proofs.Crossing.{crosses}
use Rattle.workroom.proofs.Shared.{desk_send, room_sync}
use Rattle.book_tests.proofs.tests.desks.delete_in_threads.Goals as goal

global_sync : IsSync global.the_row
global_sync = search sendable depth 20

pub for_each_mut-requires-send-T : goal.for_each_mut-requires-send-T
for_each_mut-requires-send-T g c κs within = search (sendable, crosses, desk_send) depth 20

pub for_each_mut-requires-sync-F : goal.for_each_mut-requires-sync-F
for_each_mut-requires-sync-F g c κs within = let r = c.type_bounds.sync-R in
    record {
      shared = λ x b o ν. (
        (
          ((λ q. tt), r.shared x.0.now x.0.ref_ptr.0 x.0.ref_ptr.1 κs.1.1.1.1.1.1.0),
          (
            ((λ q. tt), global_sync.shared x.1.now x.1.ref_ptr.0 x.1.ref_ptr.1 κs.1.1.1.1.1.1.1.0),
            (((λ q. tt), room_sync.shared x.2.now x.2.ref_ptr.0 x.2.ref_ptr.1 κs.1.1.1.1.1.1.1.1.0), tt),
          ),
        ),
        (λ q. tt),
      );
    }
