-- What a book keeps where an entry is added.
use Rattle.std.proofs.Common.{◌≡◌, ℕ, ◌<◌, List, [], ◌∷◌, ◌++◌, All, length, map, fold, refl, sym, ap, subst, ◌∙◌, arith, append-nil, None}
use Rattle.std.specs.List.{cons_option}
use Rattle.std.proofs.lemmas.List.{length-append, map-append}
use Rattle.std.proofs.lemmas.List.Elements.{All-push, filter_map-append}
use Rattle.std.proofs.lemmas.List.Sums.{fold-append}
use Rattle.s57_types.specs.declared.cell.Cell.{Cell}
use Rattle.cell_spec.specs.Edits.{apply_edits}
use Rattle.edit_sets.specs.FormFault.{GuardedEdits}
use Rattle.history_spec.specs.declared.entry.Asked.{Asked}
use Rattle.history_spec.specs.declared.entry.Asked.TheVariants.{View, Faulty, Commit}
use Rattle.history_spec.specs.declared.entry.Entry.{Entry}
use Rattle.history_spec.specs.declared.reply.Reply.{Reply}
use Rattle.history_spec.specs.declared.reply.Reply.TheVariants.{Viewed, Formed, Newer, Refused, Accepted}
use Rattle.history_spec.specs.Entries.{AreTold, AreToldFrom, brief_of, entry_step, event_asked, replayed, stepped}
use Rattle.history_spec.specs.Steps.{History, answer, left_after, opening}
use Rattle.room_laws.proofs.Steps.{level_left}
use Rattle.commit_book.specs.declared.accepted.Accepted.{Accepted as Taken}
use Rattle.commit_book.specs.Books.{AreTakenFrom, HaveLines, IsKept, IsTakenAt, LeavesCommits, accepted_by, accepted_in, accepted_sets, commit_of, entry_of}
use Rattle.commit_book.specs.Books.{set_in}
use Rattle.commit_book.proofs.Taken.{newest, taken_more}

-- the state after one entry more
pub replayed_more : (c : Cell) (entries : List Entry) (e : Entry) → replayed c (entries ++ e ∷ []) ≡ stepped (replayed c entries) e
replayed_more c entries e = fold-append stepped (opening c) entries (e ∷ [])

told_more : (h : History) (entries : List Entry) (e : Entry) → AreToldFrom h entries
    → e.brief ≡ brief_of (entry_step (fold stepped h entries) e).0 → AreToldFrom h (entries ++ e ∷ [])
told_more h [] e told is = (is, tt)
told_more h (x ∷ entries) e told is = (told.0, told_more (stepped h x) entries e told.1 is)

level_from : (h : History) (entries : List Entry) → (fold stepped h entries).cell.head.nall ≡ h.cell.head.nall
level_from h [] = refl
level_from h (e ∷ entries) = level_from (stepped h e) entries ∙ level_left e.desk (event_asked e.asked) (answer h (event_asked e.asked)) h

-- entries leave the level of national texts
pub same_level : (c : Cell) (entries : List Entry) → (replayed c entries).cell.head.nall ≡ c.head.nall
same_level c entries = level_from (opening c) entries

-- the entry of an answer
abbrev pub entered : ℕ → Asked → Reply → Entry
entered desk asked reply = entry_of desk asked (brief_of reply)

-- the state that an answer leaves
abbrev pub after_reply : History → ℕ → Asked → Reply → History
after_reply h desk asked reply = left_after desk (event_asked asked) reply h

-- the state after an entry with the answer at its point
pub replayed_entered : (c : Cell) (entries : List Entry) (desk : ℕ) (asked : Asked) (reply : Reply) → reply ≡ answer (replayed c entries) (event_asked asked)
    → replayed c (entries ++ entered desk asked reply ∷ []) ≡ after_reply (replayed c entries) desk asked reply
replayed_entered c entries desk asked reply is =
    replayed_more c entries (entered desk asked reply) ∙ ap (λ r. after_reply (replayed c entries) desk asked r) (sym is)

pub told_entered : (c : Cell) (entries : List Entry) (desk : ℕ) (asked : Asked) (reply : Reply) → AreTold c entries
    → reply ≡ answer (replayed c entries) (event_asked asked)
    → AreTold c (entries ++ entered desk asked reply ∷ [])
told_entered c entries desk asked reply told is = told_more (opening c) entries (entered desk asked reply) told (ap brief_of is)

cell_left : (h : History) (desk : ℕ) (asked : Asked) (reply : Reply) → LeavesCommits reply → h.cell ≡ (after_reply h desk asked reply).cell
cell_left h desk asked (Viewed number findings) leaves = refl
cell_left h desk asked (Formed fault) leaves = refl
cell_left h desk asked (Newer number name other edit) leaves = refl
cell_left h desk asked (Refused refusal) leaves = refl
cell_left h desk asked (Accepted number findings) leaves = absurd leaves

pub commits_left : (h : History) (desk : ℕ) (asked : Asked) (reply : Reply) → LeavesCommits reply → h.commits ≡ (after_reply h desk asked reply).commits
commits_left h desk asked (Viewed number findings) leaves = refl
commits_left h desk asked (Formed fault) leaves = refl
commits_left h desk asked (Newer number name other edit) leaves = refl
commits_left h desk asked (Refused refusal) leaves = refl
commits_left h desk asked (Accepted number findings) leaves = absurd leaves

no_set : (asked : Asked) (reply : Reply) → LeavesCommits reply → accepted_by asked (brief_of reply) ≡ None
no_set View reply leaves = refl
no_set (Faulty fault) reply leaves = refl
no_set (Commit base set) (Viewed number findings) leaves = refl
no_set (Commit base set) (Formed fault) leaves = refl
no_set (Commit base set) (Newer number name other edit) leaves = refl
no_set (Commit base set) (Refused refusal) leaves = refl
no_set (Commit base set) (Accepted number findings) leaves = absurd leaves

-- the edit sets that are accepted, after one entry more
pub sets_left : (entries : List Entry) (desk : ℕ) (asked : Asked) (reply : Reply) → LeavesCommits reply
    → accepted_sets (entries ++ entered desk asked reply ∷ []) ≡ accepted_sets entries
sets_left entries desk asked reply leaves =
    filter_map-append accepted_in entries (entered desk asked reply ∷ [])
    ∙ ap (λ one. accepted_sets entries ++ cons_option one []) (no_set asked reply leaves)
    ∙ append-nil (accepted_sets entries)

pub sets_pushed : (entries : List Entry) (desk base : ℕ) (set : GuardedEdits) (number findings : ℕ)
    → accepted_sets (entries ++ entered desk (Commit base set) (Accepted number findings) ∷ []) ≡ accepted_sets entries ++ set ∷ []
sets_pushed entries desk base set number findings = filter_map-append accepted_in entries (entered desk (Commit base set) (Accepted number findings) ∷ [])

-- an entry whose answer leaves the cell and its commits
pub kept_entered : (c : Cell) (entries after : List Entry) (cell : Cell) (accepted : List Taken) (desk : ℕ) (asked : Asked) (reply : Reply)
    → IsKept c entries cell accepted
    → length entries < 1000000 → reply ≡ answer (replayed c entries) (event_asked asked) → LeavesCommits reply
    → after ≡ entries ++ entered desk asked reply ∷ [] → IsKept c after cell accepted
kept_entered c entries after cell accepted desk asked reply kept room is leaves more =
    let left = sym (replayed_entered c entries desk asked reply is) ∙ ap (replayed c) (sym more) in
    let longer = ap length more ∙ length-append entries (entered desk asked reply ∷ []) in
    record {
      told = subst (AreTold c) (sym more) (told_entered c entries desk asked reply kept.told is);
      cell_is = kept.cell_is ∙ cell_left (replayed c entries) desk asked reply leaves ∙ ap (λ (h : History). h.cell) left;
      commits_are = kept.commits_are ∙ commits_left (replayed c entries) desk asked reply leaves ∙ ap (λ (h : History). h.commits) left;
      sets_are = kept.sets_are ∙ sym (ap accepted_sets more ∙ sets_left entries desk asked reply leaves);
      levels = kept.levels;
      lines = subst (All HaveLines) (sym (ap accepted_sets more ∙ sets_left entries desk asked reply leaves)) kept.lines;
      taken = kept.taken;
      few = let few = kept.few in omega (arith, few, longer);
      within = omega (arith, room, longer);
    }

-- an entry of an accepted commit
pub kept_accepted : (c : Cell) (entries after : List Entry) (cell planned : Cell) (accepted pushed : List Taken) (one : Taken)
    (base number findings : ℕ) → IsKept c entries cell accepted → length entries < 1000000
    → Accepted number findings ≡ answer (replayed c entries) (event_asked (Commit base one.set)) → one.set.nall ≡ c.head.nall
    → HaveLines one.set → IsTakenAt (replayed c entries).cell one
    → planned ≡ apply_edits one.set.edits (replayed c entries).cell → pushed ≡ accepted ++ one ∷ []
    → after ≡ entries ++ entered one.desk (Commit base one.set) (Accepted number findings) ∷ []
    → IsKept c after planned pushed
kept_accepted c entries after cell planned accepted pushed one base number findings kept room is level lines taken edits one_more more =
    let desk = one.desk in
    let set = one.set in
    let left = sym (replayed_entered c entries desk (Commit base set) (Accepted number findings) is) ∙ ap (replayed c) (sym more) in
    let longer = ap length more ∙ length-append entries (entered desk (Commit base set) (Accepted number findings) ∷ []) in
    record {
      told = subst (AreTold c) (sym more) (told_entered c entries desk (Commit base set) (Accepted number findings) kept.told is);
      cell_is = edits ∙ ap (λ (h : History). h.cell) left;
      commits_are = ap (map commit_of) one_more ∙ map-append commit_of accepted (one ∷ [])
          ∙ ap (λ commits. commits ++ commit_of one ∷ []) kept.commits_are ∙ ap (λ (h : History). h.commits) left;
      sets_are = ap (map set_in) one_more
          ∙ map-append set_in accepted (one ∷ [])
          ∙ ap (λ sets. sets ++ set ∷ []) kept.sets_are
          ∙ sym (ap accepted_sets more ∙ sets_pushed entries desk base set number findings);
      levels = subst (All (λ (t : Taken). t.set.nall ≡ c.head.nall)) (sym one_more)
          (All-push (λ (t : Taken). t.set.nall ≡ c.head.nall) accepted one kept.levels level);
      lines = subst (All HaveLines) (sym (ap accepted_sets more ∙ sets_pushed entries desk base set number findings))
          (All-push HaveLines (accepted_sets entries) set kept.lines lines);
      taken = subst (AreTakenFrom c) (sym one_more)
          (taken_more c accepted one kept.taken (subst (λ d. IsTakenAt d one) (newest c entries accepted kept.commits_are) taken));
      few = let few = kept.few in let longer_too = ap length one_more ∙ length-append accepted (one ∷ []) in omega (arith, few, longer, longer_too);
      within = omega (arith, room, longer);
    }
