-- The accepted commits of a history, from its entries.
use Rattle.std.proofs.Common.{◌≡◌, ℕ, suc, ◌+◌, List, [], ◌∷◌, ◌++◌, length, take, fold, refl, sym, ap, ◌∙◌, arith, append_assoc, append-nil}
use Rattle.std.specs.Prelude.{codes}
use Rattle.std.specs.Fmt.{decimal}
use Rattle.std.specs.List.{flat_map, enumerate_from}
use Rattle.std.proofs.lemmas.List.{length-append}
use Rattle.std.proofs.lemmas.List.Sums.{fold-append}
use Rattle.std.proofs.Math.Seq.{take-append_seam}
use Rattle.s57_types.specs.declared.cell.Cell.{Cell}
use Rattle.cell_spec.specs.declared.edit.Edit.{Edit}
use Rattle.cell_spec.specs.Edits.{apply_edits}
use Rattle.rule_spec.specs.Findings.{finding_total}
use Rattle.text_spec.specs.Lines.{line}
use Rattle.text_spec.specs.EditLine.{edit_line}
use Rattle.history_spec.specs.declared.entry.Entry.{Entry}
use Rattle.history_spec.specs.declared.entry.Asked.{Asked}
use Rattle.history_spec.specs.declared.entry.Asked.TheVariants.{View, Faulty, Commit}
use Rattle.history_spec.specs.declared.reply.Reply.{Reply}
use Rattle.history_spec.specs.declared.reply.Reply.TheVariants as reply
use Rattle.history_spec.specs.Entries.{AreTold, AreToldFrom, entry_step, stepped, replayed, brief_of, event_asked}
use Rattle.history_spec.specs.ReportText.{commit_text}
use Rattle.history_spec.specs.Steps.{History, AcceptedCommit, Event, answer, left_after, edits_asked, opening, cell_after}
use Rattle.history_spec.specs.EntriesReport.{cell_told, entry_part, part_of}
use Rattle.room_laws.proofs.Steps.{IsNumbered, answer_numbered, IsJudged, answer_judged}

abbrev one_accepted : ℕ → List Edit → AcceptedCommit
one_accepted desk edits = record { desk = desk; edits = edits }

-- the commits that a step adds
abbrev pub added_by : ℕ → Event → Reply → List AcceptedCommit
added_by desk event (reply.Viewed number findings) = []
added_by desk event (reply.Formed fault) = []
added_by desk event (reply.Newer number name other edit) = []
added_by desk event (reply.Refused refusal) = []
added_by desk event (reply.Accepted number findings) = one_accepted desk (edits_asked event) ∷ []

pub commits_left : (desk : ℕ) (event : Event) (r : Reply) (h : History) → (left_after desk event r h).commits ≡ h.commits ++ added_by desk event r
commits_left desk event (reply.Viewed number findings) h = sym (append-nil h.commits)
commits_left desk event (reply.Formed fault) h = sym (append-nil h.commits)
commits_left desk event (reply.Newer number name other edit) h = sym (append-nil h.commits)
commits_left desk event (reply.Refused refusal) h = sym (append-nil h.commits)
commits_left desk event (reply.Accepted number findings) h = refl

pub cell_left : (desk : ℕ) (event : Event) (r : Reply) (h : History) → (left_after desk event r h).cell ≡ fold
    (λ d (a : AcceptedCommit). apply_edits a.edits d) h.cell (added_by desk event r)
cell_left desk event (reply.Viewed number findings) h = refl
cell_left desk event (reply.Formed fault) h = refl
cell_left desk event (reply.Newer number name other edit) h = refl
cell_left desk event (reply.Refused refusal) h = refl
cell_left desk event (reply.Accepted number findings) h = refl

abbrev pub added : History → List Entry → List AcceptedCommit
added h [] = []
added h (e ∷ es) = added_by e.desk (event_asked e.asked) (entry_step h e).0 ++ added (stepped h e) es

pub all_added : (h : History) (es : List Entry) → (fold (stepped) h es).commits ≡ h.commits ++ added h es
all_added h [] = sym (append-nil h.commits)
all_added h (e ∷ es) = all_added (stepped h e) es
    ∙ (ap (λ (l : List AcceptedCommit). l ++ added (stepped h e) es) (commits_left e.desk (event_asked e.asked) (entry_step h e).0 h)
    ∙ append_assoc h.commits (added_by e.desk (event_asked e.asked) (entry_step h e).0) (added (stepped h e) es))

module _ (c : Cell) (all : List AcceptedCommit) where
  abbrev at : ℕ → Cell
  at n = cell_after n all c

  abbrev texts : ℕ → List AcceptedCommit → List ℕ
  texts n commits = flat_map (commit_text at) (enumerate_from n commits)

  abbrev fold_edits : Cell → List AcceptedCommit → Cell
  fold_edits = fold (λ d (a : AcceptedCommit). apply_edits a.edits d)

  -- the cell is that after these commits
  now_at : (front : List AcceptedCommit) (rest : List AcceptedCommit) → all ≡ front ++ rest → at (length front) ≡ fold_edits c front
  now_at front rest is = ap (fold_edits c) (ap (take (length front)) is ∙ take-append_seam front rest)

  one_part : (desk : ℕ) (a : Asked) (r : Reply) (h : History) (more : List AcceptedCommit) → h.cell ≡ fold_edits c h.commits
      → all ≡ (h.commits ++ added_by desk (event_asked a) r) ++ more
      → IsNumbered h.commits r → IsJudged h (event_asked a) r → texts (length h.commits + 1) (added_by desk (event_asked a) r) ≡ part_of desk a (brief_of r)
  one_part desk View (reply.Viewed number findings) h more cell is n j = refl
  one_part desk View (reply.Formed fault) h more cell is n j = refl
  one_part desk View (reply.Newer number name other edit) h more cell is n j = refl
  one_part desk View (reply.Refused refusal) h more cell is n j = refl
  one_part desk View (reply.Accepted number findings) h more cell is n j = absurd j.0
  one_part desk (Faulty fault) (reply.Viewed number findings) h more cell is n j = refl
  one_part desk (Faulty fault) (reply.Formed fault') h more cell is n j = refl
  one_part desk (Faulty fault) (reply.Newer number name other edit) h more cell is n j = refl
  one_part desk (Faulty fault) (reply.Refused refusal) h more cell is n j = refl
  one_part desk (Faulty fault) (reply.Accepted number findings) h more cell is n j = absurd j.0
  one_part desk (Commit base set) (reply.Viewed number findings) h more cell is n j = refl
  one_part desk (Commit base set) (reply.Formed fault) h more cell is n j = refl
  one_part desk (Commit base set) (reply.Newer number name other edit) h more cell is n j = refl
  one_part desk (Commit base set) (reply.Refused refusal) h more cell is n j = refl
  one_part desk (Commit base set) (reply.Accepted number findings) h more cell is n j =
      let a : AcceptedCommit = one_accepted desk set.edits in
      let front : List AcceptedCommit = h.commits ++ a ∷ [] in
      let many : length front ≡ length h.commits + 1 = length-append h.commits (a ∷ []) in
      let here : at (length h.commits + 1) ≡ apply_edits set.edits h.cell =
      ap at (sym many) ∙ (now_at front more is ∙ (fold-append (λ d (a : AcceptedCommit). apply_edits a.edits d) c h.commits (a ∷ [])
      ∙ ap (apply_edits set.edits) (sym cell))) in
      let total : finding_total (at (length h.commits + 1)) ≡ findings = ap (finding_total) here ∙ sym j.1 in
      append-nil _ ∙ (λ i. line (codes "commit") (decimal (sym n i) ∷ codes "desk" ∷ decimal desk ∷ codes "findings" ∷ decimal (total i) ∷ [])
      ++ flat_map edit_line set.edits)

  parts : (h : History) (es : List Entry) → h.cell ≡ fold_edits c h.commits → all ≡ h.commits ++ added h es → AreToldFrom h es
      → texts (length h.commits + 1) (added h es) ≡ flat_map entry_part es
  parts h [] cell is told = refl
  parts h (e ∷ es) cell is told =
      let event = event_asked e.asked in
      let r : Reply = answer h event in
      let now = added_by e.desk event r in
      let more = added (stepped h e) es in
      let grown : (stepped h e).commits ≡ h.commits ++ now = commits_left e.desk event r h in
      let whole : all ≡ (h.commits ++ now) ++ more = is ∙ sym (append_assoc h.commits now more) in
      let first : texts (length h.commits + 1) now ≡ entry_part e =
      one_part e.desk e.asked r h more cell whole (answer_numbered h event) (answer_judged h event) ∙ ap (part_of e.desk e.asked) (sym told.0) in
      let later : (stepped h e).cell ≡ fold_edits c (stepped h e).commits =
      cell_left e.desk event r h ∙ (ap (λ (d : Cell). fold_edits d now) cell
      ∙ (sym (fold-append (λ d (a : AcceptedCommit). apply_edits a.edits d) c h.commits now) ∙ ap (fold_edits c) (sym grown))) in
      let rest = parts (stepped h e) es later (whole ∙ ap (λ (l : List AcceptedCommit). l ++ more) (sym grown)) told.1 in
      let place : length (stepped h e).commits + 1 ≡ length h.commits + 1 + length now = let l = ap length grown ∙ length-append h.commits now in omega arith in
      texts_append (length h.commits + 1) now more ∙ (λ i. first i ++ (ap (λ n. texts n more) (sym place) ∙ rest) i)
    where
      texts_append : (n : ℕ) (xs ys : List AcceptedCommit) → texts n (xs ++ ys) ≡ texts n xs ++ texts (n + length xs) ys
      texts_append n [] ys = ap (λ k. texts k ys) (omega arith)
      texts_append n (x ∷ xs) ys = ap (λ (l : List ℕ). commit_text at (n, x) ++ l)
          (texts_append (n + 1) xs ys ∙ ap (λ k. texts (n + 1) xs ++ texts k ys) (omega arith))
          ∙ sym (append_assoc (commit_text at (n, x)) (texts (n + 1) xs) (texts (n + suc (length xs)) ys))

-- the parts of the accepted commits are those of the entries
pub commit_parts : (c : Cell) (entries : List Entry) → AreTold c entries
    → flat_map (commit_text (cell_told c entries)) (enumerate_from 1 (replayed c entries).commits) ≡ flat_map entry_part entries
commit_parts c entries told =
    let all = added (opening c) entries in
    let is : (replayed c entries).commits ≡ all = all_added (opening c) entries in
    ap (λ (l : List AcceptedCommit). flat_map (commit_text (λ n. cell_after n l c)) (enumerate_from 1 l)) is ∙ parts c all (opening c) entries refl refl told
