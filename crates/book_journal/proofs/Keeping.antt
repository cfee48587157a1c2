-- An entry more in a list that stands, and what a crash leaves meanwhile.
use Rattle.std.proofs.Common.{◌≡◌, inl, inr, ℕ, ◌+◌, ◌<◌, List, [], ◌∷◌, ◌++◌, length, take, drop, sym, ap, subst, ◌∙◌, arith, append_assoc, length-append}
use Rattle.std.proofs.Common.{take-append-drop}
use Rattle.std.proofs.lemmas.Bool.{cases_eq}
use Rattle.std.proofs.lemmas.List.{take_at}
use Rattle.s57_types.specs.declared.cell.Cell.{Cell}
use Rattle.history_spec.specs.Steps.{AcceptedCommit}
use Rattle.crash_disk.specs.Disk.{Only}
use Rattle.book_journal.specs.Entries.{edit_lines, entry_bytes, entry_part, list_bytes}
use Rattle.book_journal.specs.Journals.{IsAcceptedBehind, IsEnd, IsListOf}
use Rattle.book_journal.specs.Keeping.{HasOrHasNot, IsStanding}
use Rattle.book_journal.specs.Writing.{IsTornEntry, with_entry, with_part}
use Rattle.book_journal.proofs.Lists.{accepted_more, list_more}
use Rattle.book_journal.proofs.Numbers.{length-part}
use Rattle.book_journal.proofs.Readings.{end_some}

-- the place where a list ends lies within the file
pub standing_within : (c : Cell) (commits : List AcceptedCommit) (end : ℕ) (images : List ℕ → Type 0) (file : List ℕ)
    → IsStanding c commits end images file → end < length file
standing_within c commits end images file standing =
    omega (
      arith,
      standing.place_is,
      ap length standing.list.read.bytes_are,
      length-append (list_bytes commits) standing.list.rest,
      end_some standing.list.rest standing.list.ends,
    )

module _ (c : Cell) (commits : List AcceptedCommit) (one : AcceptedCommit) (end : ℕ) (file part : List ℕ) (list : IsListOf c file commits)
    (place_is : end ≡ length (list_bytes commits)) (part_is : part ≡ entry_part one.desk (edit_lines one.edits) ++ 0 ∷ []) where
  before : take end file ≡ list_bytes commits
  before = ap (λ (l : List ℕ). take end l) list.read.bytes_are ∙ take_at (list_bytes commits) list.rest end (sym place_is)

  -- behind a mark the entry stands whole
  pub with_mark : IsAcceptedBehind c commits one → IsListOf c (with_entry file end part) (commits ++ one ∷ [])
  with_mark accepted =
      let rest = drop (end + 1 + length part) file in
      record {
        rest = 0 ∷ rest;
        read = record {
          bytes_are = ap (λ (l : List ℕ). l ++ 1 ∷ (part ++ rest)) before
              ∙ ap (λ (l : List ℕ). list_bytes commits ++ 1 ∷ (l ++ rest)) part_is
              ∙ ap (λ (l : List ℕ). list_bytes commits ++ 1 ∷ l) (append_assoc (entry_part one.desk (edit_lines one.edits)) (0 ∷ []) rest)
              ∙ sym (append_assoc (list_bytes commits) (entry_bytes one) (0 ∷ rest))
              ∙ ap (λ (l : List ℕ). l ++ 0 ∷ rest) (sym (list_more commits one));
          accepted = accepted_more c [] commits one list.read.accepted accepted;
        };
        ends = λ zero_is_one. omega (arith, zero_is_one);
      }

  -- behind another byte nothing counts
  pub without_mark : (mark : ℕ) → (mark ≡ 1 → ⊥) → IsListOf c (with_part file end mark part) commits
  without_mark mark no_mark =
      let rest = drop (end + 1 + length part) file in
      record {
        rest = mark ∷ (part ++ rest);
        read = record { bytes_are = ap (λ (l : List ℕ). l ++ mark ∷ (part ++ rest)) before; accepted = list.read.accepted };
        ends = no_mark;
      }

  -- a file that is as it was up to the place has the list
  pub as_it_was : (image : List ℕ) → take (end + 1) image ≡ take (end + 1) file → IsListOf c image commits
  as_it_was image same = front list.rest list.read.bytes_are list.ends
    where
      front : (rest : List ℕ) → file ≡ list_bytes commits ++ rest → IsEnd rest → IsListOf c image commits
      front [] bytes_are ends = absurd ends
      front (byte ∷ rest) bytes_are ends =
          let behind = drop (end + 1) image in
          let sized = length-append (list_bytes commits) (byte ∷ []) in
          let kept : take (end + 1) file ≡ list_bytes commits ++ byte ∷ [] =
          ap (λ (l : List ℕ). take (end + 1) l) (bytes_are ∙ sym (append_assoc (list_bytes commits) (byte ∷ []) rest))
          ∙ take_at (list_bytes commits ++ byte ∷ []) rest (end + 1) (omega (arith, place_is, sized)) in
          record {
            rest = byte ∷ behind;
            read = record {
              bytes_are = sym (take-append-drop (end + 1) image)
                  ∙ ap (λ (l : List ℕ). l ++ behind) (same ∙ kept)
                  ∙ append_assoc (list_bytes commits) (byte ∷ []) behind;
              accepted = list.read.accepted;
            };
            ends = ends;
          }

  -- while the entry is added, a crash leaves the commits from before, or these and the new one
  pub torn_keeps : IsAcceptedBehind c commits one → (image : List ℕ) → IsTornEntry file end part image → HasOrHasNot c commits one image
  torn_keeps accepted image (inl same) = inl (inr (as_it_was image same))
  torn_keeps accepted image (inr (mark, is)) =
      elim (cases_eq mark 1) [
        | inl marked ↦ inr (inr (subst (λ (l : List ℕ). IsListOf c l (commits ++ one ∷ [])) (sym (is ∙ ap (λ (m : ℕ). with_part file end m part) marked))
            (with_mark accepted)))
        | inr other ↦ inl (inr (subst (λ (l : List ℕ). IsListOf c l commits) (sym is) (without_mark mark other)))
      ]

  -- and then the list stands with it
  pub stands_more : IsAcceptedBehind c commits one → (images : List ℕ → Type 0) → Only (with_entry file end part) images
      → IsStanding c (commits ++ one ∷ []) (end + length part) images (with_entry file end part)
  stands_more accepted images only = record {
    list = with_mark accepted;
    place_is = omega (
      arith,
      place_is,
      ap length part_is,
      length-append (entry_part one.desk (edit_lines one.edits)) (0 ∷ []),
      ap length (list_more commits one),
      length-append (list_bytes commits) (entry_bytes one),
      length-part one.desk (edit_lines one.edits),
    );
    kept = only;
  }

-- before anything is written, the commits from before are there
pub yet : (c : Cell) (commits : List AcceptedCommit) (one : AcceptedCommit) (end : ℕ) (images : List ℕ → Type 0) (file : List ℕ)
    → IsStanding c commits end images file → (image : List ℕ) → images image → HasOrHasNot c commits one image
yet c commits one end images file standing image is =
    inl (inr (subst (λ (l : List ℕ). IsListOf c l commits) (sym (standing.kept image is)) standing.list))
