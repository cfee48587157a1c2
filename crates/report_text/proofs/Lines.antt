-- A refusal's line in its parts.
use Rattle.std.proofs.Common.{◌≡◌, ℕ, List, [], ◌∷◌, ◌++◌, ◌∙◌, ap, codes}
use Rattle.std.proofs.lemmas.List.{append_assoc}
use Rattle.text_spec.specs.Lines.{spaced_words}
use Rattle.history_spec.specs.ReportText.{refused_line}

pub refused_text : (start first second last : List ℕ) (words : List (List ℕ)) → first ≡ start ++ codes "commit refused"
    → second ≡ first ++ spaced_words words → last ≡ second ++ (10 ∷ [])
    → last ≡ start ++ refused_line words
refused_text start first second last words is_first is_second is_last =
    is_last ∙ ap (λ text. text ++ (10 ∷ [])) (is_second ∙ ap (λ text. text ++ spaced_words words) is_first
    ∙ append_assoc start (codes "commit refused") (spaced_words words))
    ∙ append_assoc start (codes "commit refused" ++ spaced_words words) (10 ∷ [])
