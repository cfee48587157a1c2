use Rattle.std.proofs.Common.{◌≡◌, ◌<◌, ◌%◌, List, ℕ, length, take, get_or, true, sym, subst, arith, rules}
use Rattle.std.proofs.lemmas.Grind.{common_steps}
use Rattle.crash_disk.specs.Calls.{are_within, is_within, newest_first, IsImage}
use Rattle.crash_disk.specs.MemDisk.{calls_up_to, picked_image}
use Rattle.crash_disk.specs.declared.mem_disk.Call.{Call}
use Rattle.crash_disk.proofs.Replays.{next_within, next_within_filled, picked_is_image, within_up_to}
use Rattle.crash_disk.proofs.mem_disk.MemDisk.image.Goals as goal

pub loop-call-init : goal.loop-call-init
loop-call-init c = record {
  bytes = c.new-bytes.ensures.items;
  image = c.new-image.ensures.items;
  within = within_up_to c.deref.result.now c.min-count.result
      (subst (λ (l : List Call). are_within (newest_first l) ≡ true) (sym c.deref.ensures.value) c.args.self.now.kept.within);
}

pub replay-requires-clause-bytes : goal.replay-requires-clause-bytes
replay-requires-clause-bytes c =
    let items = take c.min-count.result c.deref.result.now in let lt : c.loop-call.call-index < length items = search rules in
    subst (λ (call : Call). is_within call c.loop-call.bytes.items ≡ true) (sym c.call-item.is)
    (subst (λ (l : List ℕ). is_within (get_or items c.loop-call.call-index c.call-item.result) l ≡ true) (sym c.loop-call.invariant.bytes)
    (next_within items c.loop-call.call-index c.call-item.result 0 lt c.loop-call.invariant.within))

pub replay-requires-clause-image : goal.replay-requires-clause-image
replay-requires-clause-image c =
    let items = take c.min-count.result c.deref.result.now in let lt : c.loop-call.call-index < length items = search rules in
    subst (λ (call : Call). is_within call c.loop-call.image.items ≡ true) (sym c.call-item.is)
    (subst (λ (l : List ℕ). is_within (get_or items c.loop-call.call-index c.call-item.result) l ≡ true) (sym c.loop-call.invariant.image)
    (next_within_filled items c.loop-call.call-index c.call-item.result (c.args.pick % 256) lt c.loop-call.invariant.within))

pub returns-clause-left : goal.returns-clause-left
returns-clause-left c =
    let calls = calls_up_to c.args.call c.args.self.now in
    let picked : c.if-pick-eq0.result.items ≡ picked_image c.args.pick calls = first_of (search rules, grind (arith, common_steps)) in
    subst (λ (l : List ℕ). IsImage calls l) (sym picked)
    (picked_is_image c.args.pick calls (within_up_to c.args.self.now.calls.items c.args.call c.args.self.now.kept.within))
