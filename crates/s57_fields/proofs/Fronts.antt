-- Bytes that were appended leave those before.
use Rattle.std.proofs.Common.{◌≡◌, ◌∙◌, ◌++◌, ℕ, List, length, take, drop, sym, ap, subst, append_assoc}
use Rattle.std.proofs.Math.Seq.{take-append_seam}
use Rattle.std.proofs.lemmas.List.{take-append-drop}

pub front_appended : (a x b c : List ℕ) → b ≡ a ++ x → take (length b) c ≡ b → take (length a) c ≡ a
front_appended a x b c more front =
    let rest : List ℕ = drop (length b) c in
    let whole : c ≡ a ++ (x ++ rest) =
    sym (take-append-drop (length b) c) ∙ ap (λ (y : List ℕ). y ++ rest) (front ∙ more) ∙ append_assoc a x rest in
    subst (λ (d : List ℕ). take (length a) d ≡ a) (sym whole) (take-append_seam a (x ++ rest))
