-- The calls of a disk while an entry is added, one after the other.
use Rattle.std.proofs.Common.{◌≡◌, ◌↔◌, inl, ℕ, ◌+◌, ◌<◌, ◌≤◌, List, [], ◌∷◌, length, take, get_or, Option, None, Some, IfSome, IsSome, refl, sym, ap}
use Rattle.std.proofs.Common.{subst, ◌∙◌, arith}
use Rattle.std.proofs.lemmas.Bool.{false≢true}
use Rattle.enc_outside.specs.Files.{Told}
use Rattle.crash_disk.specs.Disk.{Elapses, Follows, Holds, LeavesOnly, NoMore, Only, Torn, overlaid}
use Rattle.crash_disk.proofs.Moments.{goes_on, started}
use Rattle.book_journal.specs.Writing.{IsTornEntry, with_entry}
use Rattle.book_journal.proofs.Told.{if_some, some_at, told_at}
use Rattle.book_journal.proofs.Torn.{long, mark_crash, marked_is, part_crash, staged}

module _ {D : Type 0} (content : D → Option (List ℕ)) (images : D → List ℕ → Type 0) (moment : D → ℕ) (left_since : D → ℕ → List ℕ → Type 0)
    (end : ℕ) (part : List ℕ) (old : D) (standing : IfSome (content old) (λ (file : List ℕ). (end < length file) × Only file (images old)))
    (only_now : (image : List ℕ) → left_since old (moment old) image → images old image) where
  -- so far a crash leaves what the adding of the entry may leave
  abbrev pub AreMoments : D → Type 0
  AreMoments new = IfSome (content old) (λ (file : List ℕ). LeavesOnly moment left_since old new (IsTornEntry file end part))

  pub none_yet : AreMoments old
  none_yet = if_some _ _ (content old) standing (λ file told is.
      started moment left_since old (IsTornEntry file end part) (λ image left. inl (ap (λ (l : List ℕ). take (end + 1) l) (is.1 image (only_now image left)))))

  -- one call more
  more : (mid new : D) → AreMoments mid → Elapses (moment mid) (moment new) (left_since mid) (left_since new) (images new)
      → IfSome (content old) (λ (file : List ℕ). (image : List ℕ) → images new image → IsTornEntry file end part image) → AreMoments new
  more mid new so_far time here = if_some _ _ (content old) so_far (λ file told before.
      goes_on moment left_since old mid new (IsTornEntry file end part) (images new) before time (some_at _ (content old) file told here))

  module _ (wrote : D) (crash : Follows (Torn (end + 1) (length part)) (images old) (images wrote)) where
    wrote_leaves : IfSome (content old) (λ (file : List ℕ). (image : List ℕ) → images wrote image → IsTornEntry file end part image)
    wrote_leaves = if_some _ _ (content old) standing (λ file told is. part_crash file end part is.0 (images old) (images wrote) is.1 crash)

    pub part_written : Elapses (moment old) (moment wrote) (left_since old) (left_since wrote) (images wrote) → AreMoments wrote
    part_written time = more old wrote none_yet time wrote_leaves

    module _ (kept : D) (no_more : NoMore (images wrote) (images kept)) where
      pub part_kept : Elapses (moment old) (moment wrote) (left_since old) (left_since wrote) (images wrote)
          → Elapses (moment wrote) (moment kept) (left_since wrote) (left_since kept) (images kept) → AreMoments kept
      part_kept first second =
          more wrote kept (part_written first) second
          (if_some _ _ (content old) wrote_leaves (λ file told leaves image now. leaves image (no_more image now)))

      module _ (written : Told (Holds (end + 1) part) (content old) (content wrote)) (told_still : IsSome (content wrote) ↔ IsSome (content old))
          (same : content kept ≡ content wrote) where
        -- the file with the part
        pub kept_bytes : (file : List ℕ) → content old ≡ Some file → content kept ≡ Some (overlaid (end + 1) part file)
        kept_bytes file told =
            let there = told_at _ (content old) (content wrote) file told told_still.1 written in
            same ∙ there.1 ∙ ap Some there.2

        none_told : content old ≡ None → (o : Option (List ℕ)) → o ≡ content wrote → IsSome o → ⊥
        none_told none o is some =
            let before = told_still.0 (subst (λ (q : Option (List ℕ)). IsSome q) is some) in
            false≢true (subst (λ (q : Option (List ℕ)). IsSome q) none before)

        -- the mark is written within it
        pub mark_within : (o : Option (List ℕ)) → o ≡ content kept → (before : Option (List ℕ)) → before ≡ content old → IfSome o
            (λ (there : List ℕ). end ≤ length there)
        mark_within None is before was = tt
        mark_within (Some there) is None was = absurd (none_told (sym was) (Some there) (is ∙ same) refl)
        mark_within (Some there) is (Some file) was =
            let within = (some_at _ (content old) file (sym was) standing).0 in
            let bytes : there ≡ overlaid (end + 1) part file = some_same there (overlaid (end + 1) part file) (is ∙ kept_bytes file (sym was)) in
            omega (arith, ap length (bytes ∙ staged file end part within), long file end part within (get_or file end 0))
          where
            some_same : (x y : List ℕ) → Some x ≡ Some y → x ≡ y
            some_same x y e = cc

        module _ (durable : IfSome (content wrote) (λ (bytes : List ℕ). Only bytes (images kept))) (marked : D)
            (mark : Follows (Torn end 1) (images kept) (images marked)) where
          marked_leaves : IfSome (content old) (λ (file : List ℕ). (image : List ℕ) → images marked image → IsTornEntry file end part image)
          marked_leaves = if_some _ _ (content old) standing (λ file told is.
              let there = told_at _ (content old) (content wrote) file told told_still.1 written in
              mark_crash file end part is.0 there.0 (images kept) (images marked) there.2 (some_at _ (content wrote) there.0 there.1 durable) mark)

          pub mark_written : Elapses (moment old) (moment wrote) (left_since old) (left_since wrote) (images wrote)
              → Elapses (moment wrote) (moment kept) (left_since wrote) (left_since kept) (images kept)
              → Elapses (moment kept) (moment marked) (left_since kept) (left_since marked) (images marked) → AreMoments marked
          mark_written first second third = more kept marked (part_kept first second) third marked_leaves

          pub mark_kept : Elapses (moment old) (moment wrote) (left_since old) (left_since wrote) (images wrote)
              → Elapses (moment wrote) (moment kept) (left_since wrote) (left_since kept) (images kept)
              → Elapses (moment kept) (moment marked) (left_since kept) (left_since marked) (images marked) → (new : D)
              → NoMore (images marked) (images new) → Elapses (moment marked) (moment new) (left_since marked) (left_since new) (images new)
              → AreMoments new
          mark_kept first second third new none last =
              more marked new (mark_written first second third) last
              (if_some _ _ (content old) marked_leaves (λ file told leaves image now. leaves image (none image now)))

          -- and then the file has the entry
          marked_bytes : Told (Holds end (1 ∷ [])) (content kept) (content marked) → (IsSome (content kept) → IsSome (content marked))
              → (file : List ℕ) → content old ≡ Some file → content marked ≡ Some (with_entry file end part)
          marked_bytes held on file told =
              let within = (some_at _ (content old) file told standing).0 in
              let there = told_at _ (content kept) (content marked) (overlaid (end + 1) part file) (kept_bytes file told) on held in
              there.1 ∙ ap Some (marked_is file end part within (overlaid (end + 1) part file) there.0 refl there.2)

          -- once it is kept, the file has the entry, and a crash leaves nothing else
          pub marked_told : Told (Holds end (1 ∷ [])) (content kept) (content marked) → (IsSome (content kept) → IsSome (content marked)) → (new : D)
              → content new ≡ content marked → IfSome (content old) (λ (file : List ℕ). content new ≡ Some (with_entry file end part))
          marked_told held on new same_bytes = if_some _ _ (content old) standing (λ file told is. same_bytes ∙ marked_bytes held on file told)

          pub marked_only : Told (Holds end (1 ∷ [])) (content kept) (content marked) → (IsSome (content kept) → IsSome (content marked)) → (new : D)
              → IfSome (content marked) (λ (bytes : List ℕ). Only bytes (images new))
              → IfSome (content old) (λ (file : List ℕ). Only (with_entry file end part) (images new))
          marked_only held on new only = if_some _ _ (content old) standing (λ file told is.
              some_at _ (content marked) (with_entry file end part) (marked_bytes held on file told) only)
