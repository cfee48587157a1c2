-- The report of a history that is kept as entries is that of the run in its entries' order.
use Rattle.std.proofs.Common.{◌≡◌, ◌==◌, ℕ, ◌+◌, ◌-◌, Bool, true, false, List, [], ◌∷◌, ◌++◌, length, map, filter, refl, sym, ap, ◌∙◌, subst, arith}
use Rattle.std.proofs.Common.{append_assoc, ⊎_elim, cond}
use Rattle.std.specs.Prelude.{codes, slice_index_or}
use Rattle.std.specs.Fmt.{decimal}
use Rattle.std.specs.List.{flat_map, enumerate_from, range_with_len}
use Rattle.std.proofs.lemmas.Bool.{cases_Bool}
use Rattle.std.proofs.lemmas.List.{length-append}
use Rattle.s57_types.specs.declared.cell.Cell.{Cell}
use Rattle.text_spec.specs.Lines.{line}
use Rattle.text_spec.specs.CellText.{name_words, cell_text}
use Rattle.text_spec.specs.OrderLine.{order_line}
use Rattle.text_spec.specs.declared.command.Command.{Command}
use Rattle.text_spec.specs.declared.command.Command.TheVariants.{View, Commit, Drop, List as Findings, Push, Guard}
use Rattle.history_spec.specs.declared.entry.Entry.{Entry}
use Rattle.history_spec.specs.declared.reply.Brief.{Brief}
use Rattle.history_spec.specs.declared.reply.Brief.TheVariants as brief
use Rattle.history_spec.specs.declared.reply.Reply.{Reply}
use Rattle.history_spec.specs.declared.reply.Reply.TheVariants as reply
use Rattle.history_spec.specs.Entries.{entries_of, order_of_entries, replayed, brief_of, base_told}
use Rattle.history_spec.specs.ReportText.{report, report_with, final_cell, history_text, transcript_from, session_text, reply_line, base_after, refused_line}
use Rattle.history_spec.specs.ReportText.{form_words, refusal_words, list_lines, draft_line}
use Rattle.history_spec.specs.Sessions.{replies_to, replies_from, ordered_requests, script_of}
use Rattle.history_spec.specs.Steps.{opening}
use Rattle.room_laws.specs.Interleaved.{IsRunOfEntries, told_brief, entered_brief}
use Rattle.history_spec.specs.EntriesReport.{cell_told, session_part, entries_report, AreTranscripts}

abbrev brief_line : Brief → List ℕ
brief_line (brief.Viewed number findings) = line (codes "view") (codes "seen" ∷ decimal number ∷ codes "findings" ∷ decimal findings ∷ [])
brief_line (brief.Formed fault) = refused_line (form_words fault)
brief_line (brief.Newer number name desk) = refused_line (codes "newer" ∷ decimal number ∷ name_words name ++ (codes "desk" ∷ decimal desk ∷ []))
brief_line (brief.Refused refusal) = refused_line (refusal_words refusal)
brief_line (brief.Accepted number findings) = line (codes "commit") (codes "accepted" ∷ decimal number ∷ codes "findings" ∷ decimal findings ∷ [])

line_of_brief : (r : Reply) → reply_line r ≡ brief_line (brief_of r)
line_of_brief (reply.Viewed number findings) = refl
line_of_brief (reply.Formed fault) = refl
line_of_brief (reply.Newer number name desk edit) = refl
line_of_brief (reply.Refused refusal) = refl
line_of_brief (reply.Accepted number findings) = refl

pub base_of_brief : (r : Reply) (base : ℕ) → base_after r base ≡ base_told (brief_of r) base
base_of_brief (reply.Viewed number findings) base = refl
base_of_brief (reply.Formed fault) base = refl
base_of_brief (reply.Newer number name desk edit) base = refl
base_of_brief (reply.Refused refusal) base = refl
base_of_brief (reply.Accepted number findings) base = refl

one_line : (at : ℕ → Cell) (base drafted : ℕ) (commands : List Command) (r t : Reply) (rs ts : List Reply) → brief_of r ≡ brief_of t
    → ((b : ℕ) → transcript_from at b drafted commands rs ≡ transcript_from at b drafted commands ts)
    → reply_line r ++ transcript_from at (base_after r base) drafted commands rs ≡ reply_line t ++ transcript_from at (base_after t base) drafted commands ts
one_line at base drafted commands r t rs ts e rest =
    let lines : reply_line r ≡ reply_line t = line_of_brief r ∙ (ap brief_line e ∙ sym (line_of_brief t)) in
    let bases : base_after r base ≡ base_after t base = base_of_brief r base ∙ (ap (λ b. base_told b base) e ∙ sym (base_of_brief t base)) in
    (λ i. lines i ++ transcript_from at (bases i) drafted commands rs) ∙ ap (λ (l : List ℕ). reply_line t ++ l) (rest (base_after t base))

-- the lines of a session tell no more of its answers than they tell without their edits
same_lines : (at : ℕ → Cell) (base drafted : ℕ) (commands : List Command) (rs ts : List Reply) → map brief_of rs ≡ map brief_of ts
    → transcript_from at base drafted commands rs ≡ transcript_from at base drafted commands ts
same_lines at base drafted [] rs ts e = refl
same_lines at base drafted (View ∷ commands) [] [] e = refl
same_lines at base drafted (View ∷ commands) [] (t ∷ ts) e = absurd (cc e)
same_lines at base drafted (View ∷ commands) (r ∷ rs) [] e = absurd (cc e)
same_lines at base drafted (View ∷ commands) (r ∷ rs) (t ∷ ts) e =
    one_line at base drafted commands r t rs ts (cc e) (λ b. same_lines at b drafted commands rs ts (cc e))
same_lines at base drafted (Commit ∷ commands) [] [] e = refl
same_lines at base drafted (Commit ∷ commands) [] (t ∷ ts) e = absurd (cc e)
same_lines at base drafted (Commit ∷ commands) (r ∷ rs) [] e = absurd (cc e)
same_lines at base drafted (Commit ∷ commands) (r ∷ rs) (t ∷ ts) e = one_line at base 0 commands r t rs ts (cc e) (λ b. same_lines at b 0 commands rs ts (cc e))
same_lines at base drafted (Drop ∷ commands) rs ts e = ap (λ (l : List ℕ). draft_line 0 ++ l) (same_lines at base 0 commands rs ts e)
same_lines at base drafted (Findings shown ∷ commands) rs ts e =
    ap (λ (l : List ℕ). list_lines base shown (at base) ++ l) (same_lines at base drafted commands rs ts e)
same_lines at base drafted (Push edit ∷ commands) rs ts e = ap (λ (l : List ℕ). draft_line (drafted + 1) ++ l)
    (same_lines at base (drafted + 1) commands rs ts e)
same_lines at base drafted (Guard name ∷ commands) rs ts e = ap (λ (l : List ℕ). draft_line drafted ++ l) (same_lines at base drafted commands rs ts e)

-- the answers to one desk
answers_to : (d : ℕ) (ts : List (ℕ × Reply)) (es : List Entry) → map told_brief ts ≡ map entered_brief es
    → map brief_of (replies_to d ts) ≡ map (λ (e : Entry). e.brief) (entries_of d es)
answers_to d [] [] is = refl
answers_to d [] (e ∷ es) is = absurd (cc is)
answers_to d (t ∷ ts) [] is = absurd (cc is)
answers_to d (t ∷ ts) (e ∷ es) is =
    let first : told_brief t ≡ entered_brief e = cc is in
    let rest : map brief_of (replies_to d ts) ≡ map (λ (e : Entry). e.brief) (entries_of d es) = answers_to d ts es (cc is) in
    let desks : t.0 ≡ e.desk = ap (λ (p : ℕ × Brief). p.0) first in
    let briefs : brief_of t.1 ≡ e.brief = ap (λ (p : ℕ × Brief). p.1) first in
    ⊎_elim
    (λ (b : (e.desk == d) ≡ true).
    ap (λ (k : Bool). map brief_of (map (λ (told : ℕ × Reply). told.1)
    (cond k (t ∷ filter (λ (told : ℕ × Reply). told.0 == d) ts) (filter (λ (told : ℕ × Reply). told.0 == d) ts)))) (ap (λ n. n == d) desks ∙ b)
    ∙ ((λ i. briefs i ∷ rest i) ∙ ap (λ (k : Bool). map (λ (e : Entry). e.brief) (cond k (e ∷ entries_of d es) (entries_of d es))) (sym b)))
    (λ (b : (e.desk == d) ≡ false).
    ap (λ (k : Bool). map brief_of (map (λ (told : ℕ × Reply). told.1)
    (cond k (t ∷ filter (λ (told : ℕ × Reply). told.0 == d) ts) (filter (λ (told : ℕ × Reply). told.0 == d) ts)))) (ap (λ n. n == d) desks ∙ b)
    ∙ (rest ∙ ap (λ (k : Bool). map (λ (e : Entry). e.brief) (cond k (e ∷ entries_of d es) (entries_of d es))) (sym b)))
    (cases_Bool (e.desk == d))

script_behind : (front : List (List Command)) (script : List Command) (rest : List (List Command))
    → slice_index_or (front ++ script ∷ rest) (length front) [] ≡ script
script_behind [] script rest = refl
script_behind (s ∷ front) script rest = script_behind front script rest

module _ (c : Cell) (entries : List Entry) (replies : List (ℕ × Reply)) (is : map told_brief replies ≡ map entered_brief entries) where
  sessions : (front rest : List (List Command)) (texts : List (List ℕ)) (n : ℕ) → n ≡ length front + 1 → AreTranscripts c entries n rest texts
      → flat_map (λ session. session_text (cell_told c entries) session (script_of (front ++ rest) session) (replies_to session replies))
      (range_with_len n (length rest)) ≡ flat_map session_part (enumerate_from n texts)
  sessions front [] [] n place all = refl
  sessions front [] (text ∷ texts) n place all = absurd all
  sessions front (script ∷ rest) [] n place all = absurd all
  sessions front (script ∷ rest) (text ∷ texts) n place all =
      let part : ℕ → List ℕ = λ session. session_text (cell_told c entries) session (script_of (front ++ script ∷ rest) session) (replies_to session replies) in
      let t = all.0 in
      let low : n - 1 ≡ length front = omega (arith, place) in
      let here : script_of (front ++ script ∷ rest) n ≡ script = ap (λ k. slice_index_or (front ++ script ∷ rest) k []) low ∙ script_behind front script rest in
      let lines : transcript_from (cell_told c entries) 0 0 (script_of (front ++ script ∷ rest) n) (replies_to n replies) ≡ text =
      ap (λ s. transcript_from (cell_told c entries) 0 0 s (replies_to n replies)) here
      ∙ (same_lines (cell_told c entries) 0 0 script (replies_to n replies) t.replies (answers_to n replies entries is ∙ sym t.briefs) ∙ sym t.lines_are) in
      let more = subst (λ (s : List (List Command)). flat_map
      (λ session. session_text (cell_told c entries) session (script_of s session) (replies_to session replies))
      (range_with_len (n + 1) (length rest)) ≡ flat_map session_part (enumerate_from (n + 1) texts))
      (append_assoc front (script ∷ []) rest) (sessions (front ++ script ∷ []) rest texts (n + 1)
      (omega (arith, place, length-append front (script ∷ []))) all.1) in
      (λ i. (line (codes "session") (decimal n ∷ []) ++ lines i) ++ more i)

pub report_of_entries : (c : Cell) (scripts : List (List Command)) (entries : List Entry) (texts : List (List ℕ))
    → IsRunOfEntries c scripts entries → AreTranscripts c entries 1 scripts texts
    → report c scripts (order_of_entries entries) ≡ entries_report c entries texts
unfolding report
report_of_entries c scripts entries texts r all =
    let replies : List (ℕ × Reply) = replies_from (opening c) (ordered_requests scripts (order_of_entries entries)) in
    ap (report_with c scripts (order_of_entries entries) replies) r.state
    ∙ ap (λ (l : List ℕ). order_line (order_of_entries entries) ++ l ++ history_text (cell_told c entries) (replayed c entries).commits
    ++ cell_text (replayed c entries).cell)
    (sessions c entries replies r.replies [] scripts texts 1 refl all)

pub cell_of_entries : (c : Cell) (scripts : List (List Command)) (entries : List Entry) → IsRunOfEntries c scripts entries
    → final_cell c scripts (order_of_entries entries) ≡ (replayed c entries).cell
unfolding final_cell
cell_of_entries c scripts entries r = ap (λ h. h.cell) r.state
