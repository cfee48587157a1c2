-- Opening a journal: what a crash leaves is read as before.
use Rattle.std.proofs.Common.{◌≡◌, inl, ℕ, ◌<◌, ◌≤◌, List, [], ◌∷◌, length, Option, None, Some, IfSome, IsSome, Result, Ok, Err, refl, sym, ap, subst, ◌∙◌}
use Rattle.std.proofs.Common.{arith}
use Rattle.std.proofs.lemmas.Bool.{false≢true}
use Rattle.s57_types.specs.declared.cell.Cell.{Cell}
use Rattle.history_spec.specs.Steps.{AcceptedCommit}
use Rattle.commit_book.specs.Books.{BookState, history_of}
use Rattle.crash_disk.specs.Disk.{LeavesOnly, Only}
use Rattle.crash_disk.proofs.Moments.{then, weakened}
use Rattle.book_journal.specs.Entries.{list_bytes}
use Rattle.book_journal.specs.Journals.{IsDamagedAt, IsJournalOf, IsReadTo, IsReading}
use Rattle.book_journal.specs.Keeping.{AreAlike, IsAsBefore, IsStanding}
use Rattle.book_journal.specs.Opening.{IsLeft, IsOpenCause, IsOpenRefusal}
use Rattle.book_journal.specs.declared.refusal.OpenRefusal.{OpenRefusal}
use Rattle.book_journal.specs.declared.refusal.OpenRefusal.TheVariants.{BadJournal, DiskFault, JournalFull, FindingsFull, NoMemory}
use Rattle.book_journal.specs.Replaying.{IsOverLimit, IsReplayRefusal, IsReplayed}
use Rattle.book_journal.proofs.Readings.{short_journal}
use Rattle.book_journal.proofs.Told.{if_some, some_at}

pub same_as_before : (c : Cell) (images : List ℕ → Type 0) (image : List ℕ) → images image → IsAsBefore c images image
same_as_before c images image is = record { earlier = image; left = is; alike = λ reading. (λ read. read, λ read. read) }

short_read : (c : Cell) (file other : List ℕ) (reading : Result (List AcceptedCommit) ℕ) → length file ≤ 1 → length other ≤ 1
    → IsReading c file reading → IsReading c other reading
short_read c file other (Ok commits) short also journal = inl (also, short_journal c file commits short journal)
short_read c file other (Err place) short also damaged = absurd (omega (arith, short, damaged.more))

-- files of at most one byte are read alike
pub short_alike : (c : Cell) (file other : List ℕ) → length file ≤ 1 → length other ≤ 1 → AreAlike c file other
short_alike c file other short also reading = (short_read c file other reading short also, short_read c other file reading also short)

module _ {D : Type 0} (content : D → Option (List ℕ)) (images : D → List ℕ → Type 0) (moment : D → ℕ) (left_since : D → ℕ → List ℕ → Type 0) (c : Cell)
    (old : D) where
  -- while the disk is read
  pub read_as_before : (mid : D) → LeavesOnly moment left_since old mid (images old) → IfSome (content old)
      (λ (file : List ℕ). LeavesOnly moment left_since old mid (IsAsBefore c (images old)))
  read_as_before mid moments = always (content old)
    where
      leaves : LeavesOnly moment left_since old mid (IsAsBefore c (images old))
      leaves = weakened moment left_since old mid (images old) (IsAsBefore c (images old)) moments (same_as_before c (images old))

      always : (o : Option (List ℕ)) → IfSome o (λ (file : List ℕ). LeavesOnly moment left_since old mid (IsAsBefore c (images old)))
      always None = tt
      always (Some file) = leaves

  -- and while an empty list is made of it
  begun_as_before : (mid new : D) → IfSome (content old) (λ (file : List ℕ). images old file) → IfSome (content old) (λ (file : List ℕ). length file ≤ 1)
      → LeavesOnly moment left_since old mid (images old)
      → IfSome (content old) (λ (file : List ℕ). LeavesOnly moment left_since mid new (λ (image : List ℕ). length image ≤ 1))
      → IfSome (content old) (λ (file : List ℕ). LeavesOnly moment left_since old new (IsAsBefore c (images old)))
  begun_as_before mid new stays short first second = if_some _ _ (content old) short (λ file told is.
      let earlier = some_at _ (content old) file told stays in
      then moment left_since old mid new (IsAsBefore c (images old))
      (some_at _ (content old) file told (read_as_before mid first))
      (weakened moment left_since mid new (λ (image : List ℕ). length image ≤ 1) (IsAsBefore c (images old)) (some_at _ (content old) file told second)
      (λ image short_image. record { earlier = file; left = earlier; alike = short_alike c image file short_image is })))

  pub begun_after : (mid new : D) → IfSome (content old) (λ (file : List ℕ). images old file) → IfSome (content old) (λ (file : List ℕ). length file ≤ 1)
      → LeavesOnly moment left_since old mid (images old) → content mid ≡ content old
      → IfSome (content mid) (λ (file : List ℕ). LeavesOnly moment left_since mid new (λ (image : List ℕ). length image ≤ 1))
      → IfSome (content old) (λ (file : List ℕ). LeavesOnly moment left_since old new (IsAsBefore c (images old)))
  begun_after mid new stays short first same second =
      begun_as_before mid new stays short first (subst (λ (o : Option (List ℕ)). IfSome o (λ (file : List ℕ). LeavesOnly moment left_since mid new
      (λ (image : List ℕ). length image ≤ 1))) same second)

-- the list that is made of a file of at most one byte
pub begun_standing : (c : Cell) (file : List ℕ) (book : BookState) (place : ℕ) (images : List ℕ → Type 0) → length file ≤ 1 → IsReplayed c file book place
    → Only (0 ∷ []) images → IsStanding c (history_of book).commits place images (0 ∷ [])
begun_standing c file book place images short replayed only =
    let none = short_journal c file (history_of book).commits short replayed.journal in
    record {
      list = record {
        rest = 0 ∷ [];
        read = subst (λ (l : List AcceptedCommit). IsReadTo c (0 ∷ []) l (0 ∷ [])) (sym none) (record { bytes_are = refl; accepted = tt });
        ends = λ zero_is_one. omega (arith, zero_is_one);
      };
      place_is = replayed.place_is;
      kept = only;
    }

-- the list of a longer one
pub read_standing : (c : Cell) (file : List ℕ) (book : BookState) (place : ℕ) (images : List ℕ → Type 0) → 1 < length file → IsReplayed c file book place
    → Only file images → IsStanding c (history_of book).commits place images file
read_standing c file book place images more replayed only =
    let read = replayed.read more in
    record { list = record { rest = replayed.rest; read = read.0; ends = read.1 }; place_is = replayed.place_is; kept = only }

-- what is told after an empty list was made
pub begun_told : {D : Type 0} (content : D → Option (List ℕ)) (images : D → List ℕ → Type 0) (c : Cell) (book : BookState) (place : ℕ) (file : List ℕ)
    (mid new : D)
    → length file ≤ 1 → IsReplayed c file book place → (IsSome (content new) → IsSome (content mid))
    → IfSome (content mid) (λ (bytes : List ℕ). content new ≡ Some (0 ∷ [])) → IfSome (content mid) (λ (bytes : List ℕ). Only (0 ∷ []) (images new))
    → IfSome (content new) (IsStanding c (history_of book).commits place (images new))
begun_told {D} content images c book place file mid new short replayed told bytes only = stands (content mid) (content new) refl refl
  where
    stands : (before now : Option (List ℕ)) → before ≡ content mid → now ≡ content new → IfSome now (IsStanding c (history_of book).commits place (images new))
    stands before None was is_now = tt
    stands None (Some there) was is_now =
        absurd (false≢true (subst (λ (o : Option (List ℕ)). IsSome o) (sym was) (told (subst (λ (o : Option (List ℕ)). IsSome o) is_now refl))))
    stands (Some before) (Some there) was is_now =
        let same : Some there ≡ Some (0 ∷ []) = is_now ∙ some_at _ (content mid) before (sym was) bytes in
        let zero_is : there ≡ 0 ∷ [] = cc in
        subst (IsStanding c (history_of book).commits place (images new)) (sym zero_is)
        (begun_standing c file book place (images new) short replayed (some_at _ (content mid) before (sym was) only))

-- a file that is read has as many bytes as were read
pub read_short : (o : Option (List ℕ)) (bytes : List ℕ) → IfSome o (λ (file : List ℕ). bytes ≡ file) → length bytes ≤ 1 → IfSome o
    (λ (file : List ℕ). length file ≤ 1)
read_short o bytes read short = if_some _ _ o read (λ file told is. omega (arith, short, ap length is))

pub read_journal : (c : Cell) (o : Option (List ℕ)) (bytes : List ℕ) (commits : List AcceptedCommit) → IfSome o (λ (file : List ℕ). bytes ≡ file)
    → IsJournalOf c bytes commits → IfSome o (λ (file : List ℕ). IsJournalOf c file commits)
read_journal c o bytes commits read journal = if_some _ _ o read (λ file told is. subst (λ (l : List ℕ). IsJournalOf c l commits) is journal)

pub no_place : (c : Cell) (file : List ℕ) (book : BookState) (place : ℕ) → length file ≤ 1 → IsReplayed c file book place → place ≡ 0
no_place c file book place short replayed =
    replayed.place_is ∙ ap (λ (l : List AcceptedCommit). length (list_bytes l)) (short_journal c file (history_of book).commits short replayed.journal)

-- a longer file stays
pub left_as_it_was : (before now : Option (List ℕ)) (bytes : List ℕ) → IfSome before (λ (file : List ℕ). bytes ≡ file) → 1 < length bytes → now ≡ before
    → IfSome before (λ (file : List ℕ). IsLeft file now)
left_as_it_was before now bytes read more same = if_some _ _ before read (λ file told is.
    record { longer = λ _. same ∙ told; short = λ short. absurd (omega (arith, more, short, ap length is)) })

-- and one of at most one byte becomes an empty list
pub left_begun : (before mid now : Option (List ℕ)) (bytes : List ℕ) → IfSome before (λ (file : List ℕ). bytes ≡ file) → length bytes ≤ 1 → mid ≡ before
    → IfSome mid (λ (file : List ℕ). now ≡ Some (0 ∷ [])) → IfSome before (λ (file : List ℕ). IsLeft file now)
left_begun before mid now bytes read few same begun = if_some _ _ before read (λ file told is.
    record { longer = λ more. absurd (omega (arith, more, few, ap length is)); short = λ _. some_at _ mid file (same ∙ told) begun })

-- why the bytes that a disk told aren't a journal that is opened
pub replay_refused : (c : Cell) (before : Option (List ℕ)) (bytes : List ℕ) (faults now : ℕ) (why : OpenRefusal)
    → IfSome before (λ (file : List ℕ). bytes ≡ file) → IsReplayRefusal c bytes why → IsOpenRefusal c before faults now why
replay_refused c before bytes faults now (BadJournal place) read is =
    (is.0, if_some _ _ before read (λ file told same. subst (λ (l : List ℕ). IsDamagedAt c l place) same is.1))
replay_refused c before bytes faults now DiskFault read is = absurd is
replay_refused c before bytes faults now (JournalFull count) read is =
    (is.0, if_some _ _ before read (λ file told same. subst (λ (l : List ℕ). IsOverLimit c l count) same is.1))
replay_refused c before bytes faults now FindingsFull read is = is
replay_refused c before bytes faults now NoMemory read is = tt

-- why a journal isn't opened, without the disk's faults
pub cause_of : (c : Cell) (before : Option (List ℕ)) (faults now : ℕ) (why : OpenRefusal) → IsOpenRefusal c before faults now why → IsOpenCause c before why
cause_of c before faults now (BadJournal place) is = is
cause_of c before faults now DiskFault is = tt
cause_of c before faults now (JournalFull count) is = is
cause_of c before faults now FindingsFull is = is
cause_of c before faults now NoMemory is = tt
