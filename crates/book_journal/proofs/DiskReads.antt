-- The calls of a disk while it is read, and while an empty list is made of a file of at most one byte.
use Rattle.std.proofs.Common.{◌≡◌, ℕ, ◌≤◌, List, [], ◌∷◌, length, Option, Some, IfSome, IsSome, sym, ap, subst, ◌∙◌, arith}
use Rattle.std.proofs.lemmas.List.{drop_all}
use Rattle.enc_outside.specs.Files.{Told}
use Rattle.crash_disk.specs.Disk.{Elapses, Follows, Holds, LeavesOnly, NoMore, Only, Torn, overlaid}
use Rattle.crash_disk.proofs.Moments.{goes_on, started}
use Rattle.book_journal.proofs.Told.{if_some, some_at, told_at}

-- a run of calls that add no image
module _ {D : Type 0} (images : D → List ℕ → Type 0) (moment : D → ℕ) (left_since : D → ℕ → List ℕ → Type 0) (old : D) where
  -- so far a crash leaves what it might have left before, and there is no image more
  pub record AddsNothing (new : D) : Type 0 where
    pub moments : LeavesOnly moment left_since old new (images old)
    pub none : NoMore (images old) (images new)

  pub nothing_yet : ((image : List ℕ) → left_since old (moment old) image → images old image) → AddsNothing old
  nothing_yet only_now = record { moments = started moment left_since old (images old) only_now; none = λ image is. is }

  pub nothing_more : (mid new : D) → AddsNothing mid → NoMore (images mid) (images new)
      → Elapses (moment mid) (moment new) (left_since mid) (left_since new) (images new) → AddsNothing new
  nothing_more mid new so_far none time = record {
    moments = goes_on moment left_since old mid new (images old) (images new) so_far.moments time (λ image now. so_far.none image (none image now));
    none = λ image now. so_far.none image (none image now);
  }

-- a byte over at most one byte
pub torn_short : (file image : List ℕ) → length file ≤ 1 → Torn 0 1 file image → length image ≤ 1
torn_short file image short torn = omega (arith, torn.no_longer, short)

pub zero_over : (file : List ℕ) → length file ≤ 1 → overlaid 0 (0 ∷ []) file ≡ 0 ∷ []
zero_over file short = ap (λ (l : List ℕ). 0 ∷ l) (drop_all 1 file short)

module _ {D : Type 0} (content : D → Option (List ℕ)) (images : D → List ℕ → Type 0) (moment : D → ℕ) (left_since : D → ℕ → List ℕ → Type 0) (old : D)
    (standing : IfSome (content old) (λ (file : List ℕ). (length file ≤ 1) × Only file (images old)))
    (only_now : (image : List ℕ) → left_since old (moment old) image → images old image) where
  abbrev pub AreShort : D → Type 0
  AreShort new = IfSome (content old) (λ (file : List ℕ). LeavesOnly moment left_since old new (λ (image : List ℕ). length image ≤ 1))

  short_yet : AreShort old
  short_yet = if_some _ _ (content old) standing (λ file told is.
      started moment left_since old (λ (image : List ℕ). length image ≤ 1)
      (λ image left. subst (λ (l : List ℕ). length l ≤ 1) (sym (is.1 image (only_now image left))) is.0))

  module _ (wrote : D) (crash : Follows (Torn 0 1) (images old) (images wrote)) where
    short_written : IfSome (content old) (λ (file : List ℕ). (image : List ℕ) → images wrote image → length image ≤ 1)
    short_written = if_some _ _ (content old) standing (λ file told is image now.
        let from = crash image now in
        torn_short from.0 image (subst (λ (l : List ℕ). length l ≤ 1) (sym (is.1 from.0 from.1)) is.0) from.2)

    pub wrote_short : Elapses (moment old) (moment wrote) (left_since old) (left_since wrote) (images wrote) → AreShort wrote
    wrote_short time = if_some _ _ (content old) short_written (λ file told short.
        goes_on moment left_since old old wrote (λ (image : List ℕ). length image ≤ 1) (images wrote) (some_at _ (content old) file told short_yet) time short)

    pub kept_short : (kept : D) → AreShort wrote → NoMore (images wrote) (images kept)
        → Elapses (moment wrote) (moment kept) (left_since wrote) (left_since kept) (images kept) → AreShort kept
    kept_short kept so_far none time = if_some _ _ (content old) short_written (λ file told short.
        goes_on moment left_since old wrote kept (λ (image : List ℕ). length image ≤ 1) (images kept) (some_at _ (content old) file told so_far) time
        (λ image now. short image (none image now)))

    -- then there is one byte, 00
    pub zero_told : Told (Holds 0 (0 ∷ [])) (content old) (content wrote) → (IsSome (content old) → IsSome (content wrote))
        → (file : List ℕ) → content old ≡ Some file → content wrote ≡ Some (0 ∷ [])
    zero_told held on file told =
        let there = told_at _ (content old) (content wrote) file told on held in
        there.1 ∙ ap Some (there.2 ∙ zero_over file (some_at _ (content old) file told standing).0)
