-- A journal is read in one way alone.
use Rattle.std.proofs.Common.{◌≡◌, inl, inr, ℕ, ◌<◌, ◌≤◌, List, [], ◌∷◌, ◌++◌, length, Result, Ok, Err, refl, sym, ap, subst, ◌∙◌, arith, append_assoc}
use Rattle.std.proofs.Common.{append-nil, length-append}
use Rattle.s57_types.specs.declared.cell.Cell.{Cell}
use Rattle.cell_spec.specs.declared.edit.Edit.{Edit}
use Rattle.history_spec.specs.Steps.{AcceptedCommit}
use Rattle.book_journal.specs.Entries.{edit_lines, entry_bytes, list_bytes}
use Rattle.book_journal.specs.Journals.{AreAcceptedBehind, IsAcceptedBehind, IsDamagedAt, IsEnd, IsJournalOf, IsListOf, IsReading, IsReadTo}
use Rattle.book_journal.specs.Texts.{AreLinesOf}
use Rattle.book_journal.proofs.Numbers.{length-part, marked_same}
use Rattle.book_journal.proofs.Texts.{form_few}

-- a text is the lines of one list of edits
abbrev pub OneText : Type 0
OneText = (text : List ℕ) (edits others : List Edit) → AreLinesOf text edits → AreLinesOf text others → edits ≡ others

-- behind commits there is no entry of another that is accepted
abbrev pub NoMore : Cell → List AcceptedCommit → List ℕ → Type 0
NoMore c earlier rest = (one : AcceptedCommit) (behind : List ℕ) → rest ≡ entry_bytes one ++ behind → 0 < length behind → IsAcceptedBehind c earlier one → ⊥

pub end_no_more : (c : Cell) (earlier : List AcceptedCommit) (rest : List ℕ) → IsEnd rest → NoMore c earlier rest
end_no_more c earlier [] ends one behind is more accepted = absurd ends
end_no_more c earlier (byte ∷ rest) ends one behind is more accepted = ends cc

pub end_some : (rest : List ℕ) → IsEnd rest → 0 < length rest
end_some [] ends = absurd ends
end_some (byte ∷ rest) ends = omega arith

commit_same : (one other : AcceptedCommit) → one.desk ≡ other.desk → one.edits ≡ other.edits → one ≡ other
commit_same one other desks edits = λ i. record { desk = desks i; edits = edits i }

longer : (xs ys : List ℕ) → 0 < length ys → 0 < length (xs ++ ys)
longer xs ys some = omega (arith, length-append xs ys)

-- a file of at most one byte has no entry
pub short_list : (c : Cell) (file : List ℕ) (xs : List AcceptedCommit) → length file ≤ 1 → IsListOf c file xs → xs ≡ []
short_list c file [] short list = refl
short_list c file (x ∷ xs) short list =
    absurd (omega (
      arith,
      ap length list.read.bytes_are,
      length-append (list_bytes (x ∷ xs)) list.rest,
      length-append (entry_bytes x) (list_bytes xs),
      length-part x.desk (edit_lines x.edits),
    ))

pub short_journal : (c : Cell) (file : List ℕ) (xs : List AcceptedCommit) → length file ≤ 1 → IsJournalOf c file xs → xs ≡ []
short_journal c file xs short (inl none) = none.1
short_journal c file xs short (inr list) = short_list c file xs short list

module _ (one_text : OneText) (c : Cell) where
  edits_same : (earlier others : List AcceptedCommit) (one other : AcceptedCommit) → IsAcceptedBehind c earlier one → IsAcceptedBehind c others other
      → edit_lines one.edits ≡ edit_lines other.edits → one.edits ≡ other.edits
  edits_same earlier others one other accepted also e =
      one_text (edit_lines one.edits) one.edits other.edits
      (record { lines = accepted.entry.lines; text_is = refl; few = omega (arith, form_few c.head.nall one.edits accepted.form) })
      (record { lines = also.entry.lines; text_is = e; few = omega (arith, form_few c.head.nall other.edits also.form) })

  -- two lists that end where no entry follows are one
  pub same_lists : (xs ys earlier : List AcceptedCommit) (rest other : List ℕ) → list_bytes xs ++ rest ≡ list_bytes ys ++ other
      → 0 < length rest → 0 < length other → AreAcceptedBehind c earlier xs → AreAcceptedBehind c earlier ys
      → NoMore c (earlier ++ xs) rest → NoMore c (earlier ++ ys) other → (xs ≡ ys) × (rest ≡ other)
  same_lists [] [] earlier rest other e some also left right no_more none = (refl, e)
  same_lists [] (y ∷ ys) earlier rest other e some also left right no_more none =
      absurd (no_more y (list_bytes ys ++ other) (e ∙ append_assoc (entry_bytes y) (list_bytes ys) other) (longer (list_bytes ys) other also)
      (subst (λ (l : List AcceptedCommit). IsAcceptedBehind c l y) (sym (append-nil earlier)) right.0))
  same_lists (x ∷ xs) [] earlier rest other e some also left right no_more none =
      absurd (none x (list_bytes xs ++ rest) (sym e ∙ append_assoc (entry_bytes x) (list_bytes xs) rest) (longer (list_bytes xs) rest some)
      (subst (λ (l : List AcceptedCommit). IsAcceptedBehind c l x) (sym (append-nil earlier)) left.0))
  same_lists (x ∷ xs) (y ∷ ys) earlier rest other e some also left right no_more none =
      let parted = sym (append_assoc (entry_bytes x) (list_bytes xs) rest) ∙ e ∙ append_assoc (entry_bytes y) (list_bytes ys) other in
      let same = marked_same x.desk y.desk (edit_lines x.edits) (edit_lines y.edits) (list_bytes xs ++ rest) (list_bytes ys ++ other)
      left.0.entry.desk right.0.entry.desk left.0.entry.text right.0.entry.text parted in
      let one : x ≡ y = commit_same x y same.0 (edits_same earlier earlier x y left.0 right.0 same.1) in
      let behind = same_lists xs ys (earlier ++ x ∷ []) rest other same.2 some also left.1
      (subst (λ (z : AcceptedCommit). AreAcceptedBehind c (earlier ++ z ∷ []) ys) (sym one) right.1)
      (subst (λ (l : List AcceptedCommit). NoMore c l rest) (sym (append_assoc earlier (x ∷ []) xs)) no_more)
      (subst (λ (l : List AcceptedCommit). NoMore c l other)
      (sym (append_assoc earlier (y ∷ []) ys) ∙ ap (λ (z : AcceptedCommit). (earlier ++ z ∷ []) ++ ys) (sym one)) none) in
      ((λ i. one i ∷ behind.0 i), behind.1)

  read_same : (file : List ℕ) (xs ys : List AcceptedCommit) (rest other : List ℕ) → IsReadTo c file xs rest → IsReadTo c file ys other
      → 0 < length rest → 0 < length other → NoMore c xs rest → NoMore c ys other → (xs ≡ ys) × (rest ≡ other)
  read_same file xs ys rest other left right some also no_more none =
      same_lists xs ys [] rest other (sym left.bytes_are ∙ right.bytes_are) some also left.accepted right.accepted no_more none

  -- the commits of a file are those of no other list
  pub journal_same : (file : List ℕ) (xs ys : List AcceptedCommit) → IsJournalOf c file xs → IsJournalOf c file ys → xs ≡ ys
  journal_same file xs ys (inl none) (inl also) = none.1 ∙ sym also.1
  journal_same file xs ys (inl none) (inr list) = none.1 ∙ sym (short_list c file ys none.0 list)
  journal_same file xs ys (inr list) (inl none) = short_list c file xs none.0 list ∙ sym none.1
  journal_same file xs ys (inr list) (inr also) =
      (read_same file xs ys list.rest also.rest list.read also.read (end_some list.rest list.ends) (end_some also.rest also.ends)
      (end_no_more c xs list.rest list.ends) (end_no_more c ys also.rest also.ends)).0

  marked_ends : (rest behind : List ℕ) → rest ≡ 1 ∷ behind → IsEnd rest → ⊥
  marked_ends [] behind is ends = ends
  marked_ends (byte ∷ rest) behind is ends = ends cc

  -- a journal of commits isn't damaged
  pub not_damaged : (file : List ℕ) (xs : List AcceptedCommit) (place : ℕ) → IsJournalOf c file xs → IsDamagedAt c file place → ⊥
  not_damaged file xs place (inl none) damaged = omega (arith, none.0, damaged.more)
  not_damaged file xs place (inr list) damaged =
      marked_ends list.rest damaged.rest
      (read_same file xs damaged.commits list.rest (1 ∷ damaged.rest) list.read damaged.read (end_some list.rest list.ends) (omega arith)
      (end_no_more c xs list.rest list.ends) damaged.bad).1 list.ends

  damage_same : (file : List ℕ) (place other : ℕ) → IsDamagedAt c file place → IsDamagedAt c file other → place ≡ other
  damage_same file place other damaged also =
      damaged.place_is
      ∙ ap (λ (l : List AcceptedCommit). length (list_bytes l))
      (read_same file damaged.commits also.commits (1 ∷ damaged.rest) (1 ∷ also.rest) damaged.read also.read (omega arith) (omega arith) damaged.bad also.bad).0
      ∙ sym also.place_is

  pub one_reading : (file : List ℕ) (reading other : Result (List AcceptedCommit) ℕ) → IsReading c file reading → IsReading c file other → reading ≡ other
  one_reading file (Ok xs) (Ok ys) is also = ap Ok (journal_same file xs ys is also)
  one_reading file (Ok xs) (Err place) is damaged = absurd (not_damaged file xs place is damaged)
  one_reading file (Err place) (Ok xs) damaged is = absurd (not_damaged file xs place is damaged)
  one_reading file (Err place) (Err other) damaged also = ap Err (damage_same file place other damaged also)
