-- Lists of entries: one commit more, and the places where they are damaged.
use Rattle.std.proofs.Common.{◌≡◌, ℕ, ◌+◌, ◌<◌, ◌^◌, List, [], ◌∷◌, ◌++◌, length, take, fold, Option, None, Some, refl, sym, ap, subst, ◌∙◌, arith}
use Rattle.std.proofs.Common.{append_assoc, append-nil}
use Rattle.std.specs.List.{enumerate_from, filter_map}
use Rattle.std.specs.Option.{option_map_or}
use Rattle.std.proofs.Math.Seq.{take-length}
use Rattle.std.proofs.lemmas.List.{drop_all, flat_map_more}
use Rattle.std.proofs.lemmas.List.FromFn.{length-enumerate_from}
use Rattle.std.proofs.lemmas.List.Sums.{fold-append}
use Rattle.s57_types.specs.declared.cell.Cell.{Cell}
use Rattle.cell_spec.specs.declared.edit.Edit.{Edit}
use Rattle.cell_spec.specs.Edits.{apply_edits}
use Rattle.rule_spec.specs.Findings.{finding_total}
use Rattle.edit_sets.specs.FormFault.{form_fault}
use Rattle.history_spec.specs.declared.refusal.StateRefusal.{StateRefusal}
use Rattle.history_spec.specs.declared.reply.Reply.{Reply}
use Rattle.history_spec.specs.declared.reply.Reply.TheVariants.{Refused, Accepted}
use Rattle.history_spec.specs.Steps.{AcceptedCommit, answer, cell_after, clash_with, commit, first_of, newer_answer, opening, state_refusal}
use Rattle.room_laws.proofs.Steps.{level_left}
use Rattle.book_journal.specs.Cuts.{HasNoEntry, IsEntryOf, IsMarked}
use Rattle.book_journal.specs.Entries.{edit_lines, entry_bytes, entry_part, list_bytes}
use Rattle.book_journal.specs.Journals.{AreAcceptedBehind, IsAcceptance, IsAcceptedBehind, IsDamagedAt, IsReadTo, state_after}
use Rattle.book_journal.specs.Replaying.{AreTaken, IsNotTaken}
use Rattle.book_journal.proofs.Numbers.{marked_same}

pub list_more : (commits : List AcceptedCommit) (one : AcceptedCommit) → list_bytes (commits ++ one ∷ []) ≡ list_bytes commits ++ entry_bytes one
list_more commits one = sym (flat_map_more entry_bytes [] commits one)

pub accepted_more : (c : Cell) (earlier commits : List AcceptedCommit) (one : AcceptedCommit) → AreAcceptedBehind c earlier commits
    → IsAcceptedBehind c (earlier ++ commits) one → AreAcceptedBehind c earlier (commits ++ one ∷ [])
accepted_more c earlier [] one accepted is = (subst (λ (l : List AcceptedCommit). IsAcceptedBehind c l one) (append-nil earlier) is, tt)
accepted_more c earlier (x ∷ commits) one accepted is = (
  accepted.0,
  accepted_more c (earlier ++ x ∷ []) commits one accepted.1
      (subst (λ (l : List AcceptedCommit). IsAcceptedBehind c l one) (sym (append_assoc earlier (x ∷ []) commits)) is),
)

-- one entry more is read
pub read_more : (c : Cell) (file : List ℕ) (commits : List AcceptedCommit) (one : AcceptedCommit) (before rest : List ℕ) → IsReadTo c file commits before
    → before ≡ entry_bytes one ++ rest → IsAcceptedBehind c commits one → IsReadTo c file (commits ++ one ∷ []) rest
read_more c file commits one before rest read is accepted = record {
  bytes_are = read.bytes_are
      ∙ ap (λ (l : List ℕ). list_bytes commits ++ l) is
      ∙ sym (append_assoc (list_bytes commits) (entry_bytes one) rest)
      ∙ ap (λ (l : List ℕ). l ++ rest) (sym (list_more commits one));
  accepted = accepted_more c [] commits one read.accepted accepted;
}

-- the cell after one commit more
pub cell_more : (c : Cell) (commits : List AcceptedCommit) (one : AcceptedCommit)
    → cell_after (length (commits ++ one ∷ [])) (commits ++ one ∷ []) c ≡ apply_edits one.edits (cell_after (length commits) commits c)
cell_more c commits one =
    let edited : List AcceptedCommit → Cell = λ l. fold (λ (d : Cell) (accepted : AcceptedCommit). apply_edits accepted.edits d) c l in
    ap edited (take-length (commits ++ one ∷ []))
    ∙ fold-append (λ (d : Cell) (accepted : AcceptedCommit). apply_edits accepted.edits d) c commits (one ∷ [])
    ∙ ap (λ (d : Cell). apply_edits one.edits d) (ap edited (sym (take-length commits)))

level_edited : (d : Cell) (commits : List AcceptedCommit)
    → (fold (λ (e : Cell) (accepted : AcceptedCommit). apply_edits accepted.edits e) d commits).head.nall ≡ d.head.nall
level_edited d [] = refl
level_edited d (a ∷ commits) = level_edited (apply_edits a.edits d) commits ∙ level_left 0 (commit 0 a.edits []) (Accepted 0 0) (opening d)

-- commits leave the level of national texts
pub level_after : (c : Cell) (n : ℕ) (commits : List AcceptedCommit) → (cell_after n commits c).head.nall ≡ c.head.nall
level_after c n commits = level_edited c (take n commits)

-- behind all commits there is no newer one
pub none_newer : (commits : List AcceptedCommit) (edits : List Edit) → newer_answer commits (length commits) edits [] ≡ None
none_newer commits edits =
    ap (λ (l : List (ℕ × AcceptedCommit)). first_of (filter_map (clash_with edits []) l))
    (drop_all (length commits) (enumerate_from 1 commits) (omega (arith, length-enumerate_from 1 commits)))

pub accepting : (refusal : Option StateRefusal) (number findings : ℕ) → refusal ≡ None
    → IsAcceptance (option_map_or Refused refusal (Accepted number findings))
accepting None number findings none = tt
accepting (Some why) number findings none = cc

pub accepting_none : (refusal : Option StateRefusal) (number findings : ℕ) → IsAcceptance (option_map_or Refused refusal (Accepted number findings)) →
    refusal ≡ None
accepting_none None number findings is = refl
accepting_none (Some why) number findings is = absurd is

module _ (c : Cell) (commits : List AcceptedCommit) where
  abbrev verdict : List Edit → Reply
  verdict edits = option_map_or Refused (state_refusal (cell_after (length commits) commits c) edits)
      (Accepted (length commits + 1) (finding_total (apply_edits edits (cell_after (length commits) commits c))))

  answered : (edits : List Edit) → answer (state_after c commits) (commit (length commits) edits []) ≡ verdict edits
  answered edits = ap (λ (o : Option Reply). option_map_or (λ (reply : Reply). reply) o (verdict edits)) (none_newer commits edits)

  -- a text of edits that the cell takes is that of a commit that is accepted
  pub taken_accepted : (desk : ℕ) (text : List ℕ) (edits : List Edit) → desk < 2 ^ 32 → length text < 2 ^ 32
      → AreTaken (cell_after (length commits) commits c) text edits → IsAcceptedBehind c commits (record { desk = desk; edits = edits })
  taken_accepted desk text edits desk_fits text_fits taken = record {
    entry = record {
      desk = desk_fits;
      text = subst (λ (l : List ℕ). length l < 2 ^ 32) taken.edits_are.text_is text_fits;
      lines = taken.edits_are.lines;
    };
    form = ap (λ (level : ℕ). form_fault level edits []) (sym (level_after c (length commits) commits)) ∙ taken.edits_are.form;
    answered = subst IsAcceptance (sym (answered edits))
        (accepting (state_refusal (cell_after (length commits) commits c) edits) (length commits + 1)
        (finding_total (apply_edits edits (cell_after (length commits) commits c))) taken.none);
  }

  -- and the other way round
  pub accepted_taken : (one : AcceptedCommit) → IsAcceptedBehind c commits one
      → AreTaken (cell_after (length commits) commits c) (edit_lines one.edits) one.edits
  accepted_taken one accepted = record {
    edits_are = record {
      lines = accepted.entry.lines;
      form = ap (λ (level : ℕ). form_fault level one.edits []) (level_after c (length commits) commits) ∙ accepted.form;
      text_is = refl;
    };
    none = accepting_none (state_refusal (cell_after (length commits) commits c) one.edits) (length commits + 1)
        (finding_total (apply_edits one.edits (cell_after (length commits) commits c)))
        (subst IsAcceptance (answered one.edits) accepted.answered);
  }

  module _ (file rest : List ℕ) (more : 1 < length file) (read : IsReadTo c file commits rest) where
    -- an entry whose text isn't taken is damaged
    pub not_taken_damaged : (desk : ℕ) (text behind : List ℕ) → IsEntryOf rest desk text behind
        → IsNotTaken (cell_after (length commits) commits c) text → IsDamagedAt c file (length (list_bytes commits))
    not_taken_damaged desk text behind entry not_taken = record {
      more = more;
      commits = commits;
      rest = entry_part desk text ++ behind;
      read = subst (IsReadTo c file commits) entry.bytes_are read;
      place_is = refl;
      bad = λ one after is behind_it accepted.
          let same = marked_same desk one.desk text (edit_lines one.edits) behind after entry.desk_fits accepted.entry.desk entry.text_fits
          accepted.entry.text is in
          not_taken one.edits (subst (λ (l : List ℕ). AreTaken (cell_after (length commits) commits c) l one.edits) (sym same.1) (accepted_taken one accepted));
    }

    -- so is a mark behind which no entry stands
    pub no_entry_damaged : IsMarked rest → HasNoEntry rest → IsDamagedAt c file (length (list_bytes commits))
    no_entry_damaged mark none = record {
      more = more;
      commits = commits;
      rest = mark.behind;
      read = subst (IsReadTo c file commits) mark.bytes_are read;
      place_is = refl;
      bad = λ one after is behind_it accepted. none one.desk (edit_lines one.edits) after (record {
        bytes_are = mark.bytes_are ∙ is;
        desk_fits = accepted.entry.desk;
        text_fits = accepted.entry.text;
        more = behind_it;
      });
    }
