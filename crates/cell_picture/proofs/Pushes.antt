-- Texts appended one after the other, behind the last of which stands a result.
use Rattle.std.proofs.Common.{◌≡◌, ℕ, List, ◌++◌, Result, Ok, Err, ap, ◌∙◌, append_assoc}
use Rattle.std.specs.Result.{OnOk}

pub after : (out first rest : List ℕ) {mid new : List ℕ} → mid ≡ out ++ first → new ≡ mid ++ rest → new ≡ out ++ (first ++ rest)
after out first rest one more = more ∙ ap (λ text. text ++ rest) one ∙ append_assoc out first rest

pub two_more : (out first second third : List ℕ) {a b c : List ℕ} → a ≡ out ++ first → b ≡ a ++ second → c ≡ b ++ third
    → c ≡ out ++ (first ++ (second ++ third))
two_more out first second third one two three =
    three ∙ ap (λ text. text ++ third) (two ∙ ap (λ text. text ++ second) one)
    ∙ append_assoc (out ++ first) second third ∙ append_assoc out first (second ++ third)

pub always : {T E P : Type 0} (r : Result T E) → P → OnOk r P
always (Ok x) holds = holds
always (Err e) holds = tt
