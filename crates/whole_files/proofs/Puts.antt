-- One put after another.
use Rattle.std.proofs.Common.{ℕ, List, ◌++◌, Option, Some, None, sym, ap, ◌∙◌, append_assoc}
use Rattle.std.proofs.Common.{refl}
use Rattle.std.proofs.lemmas.Bool.{false≢true}
use Rattle.enc_outside.specs.Files.{Told, StaysUntold}
use Rattle.whole_files.specs.Output.{Adds}

-- what was put so far, and what the next put took
pub told_more : (x y : List ℕ) (a b c : Option (List ℕ)) → Told (Adds x) a b → StaysUntold b c → Told (Adds y) b c → Told (Adds (x ++ y)) a c
told_more x y None b c _ _ _ = tt
told_more x y (Some a) b None _ _ _ = tt
told_more x y (Some a) None (Some c) _ stays _ = absurd (false≢true (sym (stays refl)))
told_more x y (Some a) (Some b) (Some c) first stays second = second ∙ ap (λ z. z ++ y) first ∙ append_assoc a x y
