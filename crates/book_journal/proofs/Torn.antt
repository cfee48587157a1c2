-- What the two steps of adding an entry leave.
use Rattle.std.proofs.Common.{◌≡◌, inl, inr, ℕ, ◌+◌, ◌<◌, ◌≤◌, List, [], ◌∷◌, ◌++◌, length, take, drop, get_or, sym, ap, subst, ◌∙◌, arith, append_assoc}
use Rattle.std.proofs.Common.{length-append, take-append-drop}
use Rattle.std.proofs.lemmas.List.{take_at, drop_at, drop_more, length-take-le, take_more}
use Rattle.crash_disk.specs.Disk.{Follows, Holds, Only, Torn, overlaid}
use Rattle.book_journal.specs.Writing.{IsTornEntry, with_entry, with_part}

module _ (file : List ℕ) (end : ℕ) (part : List ℕ) (within : end < length file) where
  front : length (take end file) ≡ end
  front = length-take-le end file (omega (arith, within))

  abbrev pub behind : List ℕ
  behind = drop (end + 1 + length part) file

  -- what stands there once the part is written: the byte at the place is as it was
  pub staged : overlaid (end + 1) part file ≡ with_part file end (get_or file end 0) part
  staged =
      ap (λ (l : List ℕ). (l ++ part) ++ behind) (take_more file end 0 within)
      ∙ append_assoc (take end file ++ get_or file end 0 ∷ []) part behind
      ∙ append_assoc (take end file) (get_or file end 0 ∷ []) (part ++ behind)

  regrouped : (mark : ℕ) → with_part file end mark part ≡ (take end file ++ mark ∷ []) ++ (part ++ behind)
  regrouped mark = sym (append_assoc (take end file) (mark ∷ []) (part ++ behind))

  pub behind_mark : (mark : ℕ) → drop (end + 1) (with_part file end mark part) ≡ part ++ behind
  behind_mark mark =
      ap (λ (l : List ℕ). drop (end + 1) l) (regrouped mark)
      ∙ drop_at (take end file ++ mark ∷ []) (part ++ behind) (end + 1) (omega (arith, front, length-append (take end file) (mark ∷ [])))

  pub before_mark : (mark : ℕ) → take end (with_part file end mark part) ≡ take end file
  before_mark mark = take_at (take end file) (mark ∷ (part ++ behind)) end front

  pub long : (mark : ℕ) → end + 1 ≤ length (with_part file end mark part)
  long mark = omega (
    arith,
    front,
    ap length (regrouped mark),
    length-append (take end file ++ mark ∷ []) (part ++ behind),
    length-append (take end file)
        (mark ∷ []),
  )

  -- the mark is written over the byte at the place
  pub remarked : (mark other : ℕ) → overlaid end (other ∷ []) (with_part file end mark part) ≡ with_part file end other part
  remarked mark other =
      ap (λ (l : List ℕ). (l ++ other ∷ []) ++ drop (end + 1) (with_part file end mark part)) (before_mark mark)
      ∙ ap (λ (l : List ℕ). (take end file ++ other ∷ []) ++ l) (behind_mark mark)
      ∙ append_assoc (take end file) (other ∷ []) (part ++ behind)

  -- where that is torn, some byte stands there
  pub torn_mark : (mark : ℕ) (image : List ℕ) → Torn end 1 (with_part file end mark part) image → (other : ℕ) × (image ≡ with_part file end other part)
  torn_mark mark image torn =
      let other = get_or image end 0 in
      let least = long mark in
      let within_image : end < length image = omega (arith, torn.no_shorter, least) in (
        other,
        sym (take-append-drop end image)
            ∙ ap (λ (l : List ℕ). l ++ drop end image) (torn.before ∙ before_mark mark)
            ∙ ap (λ (l : List ℕ). take end file ++ l) (drop_more image end 0 within_image)
            ∙ ap (λ (l : List ℕ). take end file ++ other ∷ l) (torn.after ∙ behind_mark mark),
      )

  -- the images while the part is written, and once it is kept while the mark is
  pub part_crash : (old new : List ℕ → Type 0) → Only file old → Follows (Torn (end + 1) (length part)) old new
      → (image : List ℕ) → new image → IsTornEntry file end part image
  part_crash old new only follows image left =
      let from = follows image left in
      let torn = subst (λ (f : List ℕ). Torn (end + 1) (length part) f image) (only from.0 from.1) from.2 in
      inl torn.before

  pub mark_crash : (kept : List ℕ) (old new : List ℕ → Type 0) → kept ≡ overlaid (end + 1) part file → Only kept old → Follows (Torn end 1) old new
      → (image : List ℕ) → new image → IsTornEntry file end part image
  mark_crash kept old new is only follows image left =
      let from = follows image left in
      inr (torn_mark (get_or file end 0) image (subst (λ (f : List ℕ). Torn end 1 f image) (only from.0 from.1 ∙ is ∙ staged) from.2))

  pub marked_is : (kept new : List ℕ) → kept ≡ overlaid (end + 1) part file → Holds end (1 ∷ []) kept new → new ≡ with_entry file end part
  marked_is kept new is holds = holds ∙ ap (λ (l : List ℕ). overlaid end (1 ∷ []) l) (is ∙ staged) ∙ remarked (get_or file end 0) 1
