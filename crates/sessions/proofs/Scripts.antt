-- A script whose first commands are done.
use Rattle.std.proofs.Common.{◌≡◌, ℕ, zero, suc, ◌+◌, ◌<◌, ◌≤◌, List, [], ◌∷◌, ◌++◌, get_or, length, take, drop, refl, sym, ap, ◌∙◌, min, length-take, arith}
use Rattle.text_spec.specs.declared.command.Command.{Command}
use Rattle.sessions.specs.SessionStates.{SessionState, StandsNext}

-- behind those that are done stands the next, and then the others
cut_at : (script : List Command) (k : ℕ) (c : Command) → k < length script → c ≡ get_or script k c → script ≡ take k script ++ c ∷ drop (suc k) script
cut_at [] k c within is = absurd (omega (arith, within))
cut_at (x ∷ script) zero c within is = ap (λ first. first ∷ script) (sym is)
cut_at (x ∷ script) (suc k) c within is = ap (λ rest. x ∷ rest) (cut_at script k c (omega (arith, within)) is)

pub stands : (s : SessionState) (script commands : List Command) (k : ℕ) (c next : Command) → s.script ≡ script → s.done ≡ take k script → commands ≡ script
    → k < length commands → c ≡ get_or commands k c → c ≡ next → StandsNext s next
stands s script commands k c next same done listed within is named =
    let there : k < length script = omega (arith, ap length listed, within) in
    let here : c ≡ get_or script k c = is ∙ ap (λ all. get_or all k c) listed in
    record {
      rest = drop (suc k) script;
      script_is = same ∙ cut_at script k c there here ∙ (λ i. sym done i ++ named i ∷ drop (suc k) script);
    }

taken : (done : List Command) (c : Command) (rest : List Command) → take (suc (length done)) (done ++ c ∷ rest) ≡ done ++ c ∷ []
taken [] c rest = refl
taken (x ∷ done) c rest = ap (λ others. x ∷ others) (taken done c rest)

-- with the one that stood next, one more is done
pub one_done : (s : SessionState) (script : List Command) (k : ℕ) (c : Command) → s.script ≡ script → s.done ≡ take k script
    → k ≤ length script → StandsNext s c
    → take (k + 1) script ≡ s.done ++ c ∷ []
one_done s script k c same done within next =
    let counted : length s.done ≡ k = (let e : length (take k script) ≡ min k (length script) = length-take k script in
    omega (arith, e, ap length done, within)) in
    (let more : k + 1 ≡ suc (length s.done) = omega (arith, counted) in λ i. take (more i) ((sym same ∙ next.script_is) i)) ∙ taken s.done c next.rest
