-- Parts of a text that are appended one after the other.
use Rattle.std.proofs.Common.{◌≡◌, ℕ, List, ◌++◌, append_assoc, ap, ◌∙◌}

more : (text before next part front : List ℕ) → before ≡ text ++ front → next ≡ before ++ part → next ≡ text ++ (front ++ part)
more text before next part front e f = f ∙ ap (λ z. z ++ part) e ∙ append_assoc text front part

pub six_appended : (text first second third fourth fifth sixth a b c d e f : List ℕ) → first ≡ text ++ a → second ≡ first ++ b → third ≡ second ++ c
    → fourth ≡ third ++ d → fifth ≡ fourth ++ e → sixth ≡ fifth ++ f → sixth ≡ text ++ (a ++ b ++ c ++ d ++ e ++ f)
six_appended text first second third fourth fifth sixth a b c d e f p q r s t u =
    let two = more text first second b a p q in
    let three = more text second third c (a ++ b) two r in
    let four = more text third fourth d (a ++ b ++ c) three s in
    let five = more text fourth fifth e (a ++ b ++ c ++ d) four t in
    more text fifth sixth f (a ++ b ++ c ++ d ++ e) five u
