-- The order of a drill is one of its scripts.
use Rattle.std.proofs.Common.{◌≡◌, ℕ, ◌-◌, ◌<◌, ◌≤◌, [], length, refl, sym, ap, ◌∙◌, subst, arith}
use Rattle.std.specs.Prelude.{All, count_by, slice_index_or}
use Rattle.std.specs.List.{range_with_len}
use Rattle.std.proofs.lemmas.List.{length-map, get_or-map}
use Rattle.std.proofs.lemmas.List.Elements.{All-map}
use Rattle.std.proofs.lemmas.List.FromFn.{length-range_with_len, get_or-map-range_with_len}
use Rattle.text_spec.specs.OrderLine.{IsOrder, quota_of}
use Rattle.text_spec.specs.ScriptLines.{is_shared}
use Rattle.room_laws.specs.Orders.{quotas_of}
use Rattle.sessions.specs.Replays.{IsShortScript}
use Rattle.cell_make.specs.GeneratedScripts.{generated_script, generated_scripts}
use Rattle.drill_run.specs.RoundRobin.{in_turns, round_robin}
use Rattle.drill_run.proofs.InTurns.{IsBetween, in_turns_between, in_turns_count}

script_length : (n script : ℕ) → length (generated_script n script) ≡ 30
script_length n script = refl

script_quota : (n script : ℕ) → count_by is_shared (generated_script n script) ≡ 20
script_quota n script = refl

is_short : (n script : ℕ) → IsShortScript (generated_script n script)
is_short n script = omega (arith, script_length n script)

pub are_short : (n sessions : ℕ) → All IsShortScript (generated_scripts n sessions)
are_short n sessions = All-map IsShortScript (generated_script n) (range_with_len 1 sessions)
    (λ k d below. is_short n (slice_index_or (range_with_len 1 sessions) k d))

pub many_scripts : (n sessions : ℕ) → length (generated_scripts n sessions) ≡ sessions
many_scripts n sessions = length-map (range_with_len 1 sessions) (generated_script n) ∙ length-range_with_len 1 sessions

many_quotas : (n sessions : ℕ) → length (quotas_of (generated_scripts n sessions)) ≡ sessions
many_quotas n sessions = length-map (generated_scripts n sessions) (count_by is_shared) ∙ many_scripts n sessions

quota : (n sessions i : ℕ) → 1 ≤ i → i ≤ sessions → quota_of (quotas_of (generated_scripts n sessions)) i ≡ 20
quota n sessions i low high =
    let many = many_scripts n sessions in
    let within : i - 1 < length (generated_scripts n sessions) = omega (arith, many, low, high) in
    get_or-map (count_by is_shared) (generated_scripts n sessions) (i - 1) [] 0 within
    ∙ ap (count_by is_shared) (get_or-map-range_with_len (generated_script n) 1 sessions (i - 1) i [] (omega (arith, low, high)) (omega (arith, low)))
    ∙ script_quota n i

pub is_order : (n sessions : ℕ) → IsOrder (quotas_of (generated_scripts n sessions)) (round_robin sessions)
unfolding round_robin
is_order n sessions = record {
  sessions = subst (λ high. All (IsBetween 1 high) (in_turns sessions 20)) (sym (many_quotas n sessions)) (in_turns_between sessions 20);
  each = λ i low high. let within : i ≤ sessions = subst (λ most. i ≤ most) (many_quotas n sessions) high in
      in_turns_count sessions 20 i low within ∙ sym (quota n sessions i low within);
}
