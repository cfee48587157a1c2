use Rattle.std.proofs.Common.{◌≡◌, List, cond, subst, sym, ap, ◌∙◌}
use Rattle.std.specs.List.Sorted.{IsStrictlySortedBy}
use Rattle.std.proofs.lemmas.Result.{on_ok_weaker}
use Rattle.cell_spec.specs.declared.key.Key.{Key}
use Rattle.cell_spec.specs.Ascending.{ascending}
use Rattle.cell_spec.specs.Names.{key_order, same_subject}
use Rattle.cell_spec.proofs.Ascending.{holds-ascending, sorted-ascending}
use Rattle.cell_spec.proofs.Orders.{exact_keys, total_keys}
use Rattle.depend_map.specs.Readers.{has_pair, holds_key}
use Rattle.depend_map.proofs.set.replace_keys.Goals as goal

-- keys that are put in order ascend, and hold what they held
ordered : (keys sorted : List Key) → sorted ≡ ascending key_order keys → IsStrictlySortedBy key_order sorted
ordered keys sorted is = subst (IsStrictlySortedBy key_order) (sym is) (sorted-ascending key_order total_keys keys)

alike : (keys sorted : List Key) → sorted ≡ ascending key_order keys → (k : Key) → holds_key sorted k ≡ holds_key keys k
alike keys sorted is k = ap (λ ks. holds_key ks k) is ∙ holds-ascending key_order exact_keys k keys

pub replace_ascending-requires-2 : goal.replace_ascending-requires-2
replace_ascending-requires-2 c =
    let old = c.as_slice.ensures ∙ c.ascending_keys-old.ensures ∙ ap (ascending key_order) (c.into_vec.ensures ∙ c.in_ok-copy_of.ensures) in
    let new = c.as_slice-2.ensures ∙ c.ascending_keys-new.ensures ∙ ap (ascending key_order) (c.into_vec-2.ensures ∙ c.in_ok-copy_of-2.ensures) in
    record {
      old = ordered c.args.old.now c.as_slice.result.now old;
      new = ordered c.args.new.now c.as_slice-2.result.now new;
      kept = λ k. c.requires k ∙ sym (alike c.args.old.now c.as_slice.result.now old k);
    }

pub returns : goal.returns
returns c =
    let new = c.as_slice-2.ensures ∙ c.ascending_keys-new.ensures ∙ ap (ascending key_order) (c.into_vec-2.ensures ∙ c.in_ok-copy_of-2.ensures) in
    on_ok_weaker c.replace_ascending-2.result (λ put k s.
    put k s ∙ ap (λ b. cond (same_subject c.args.subject s) b (has_pair c.args.readers.now k s)) (alike c.args.new.now c.as_slice-2.result.now new k))
    c.replace_ascending-2.ensures
