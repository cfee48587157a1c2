-- One command more of a session.
use mathlib.Core.List.{IsPrefix}
use Rattle.std.proofs.Common.{◌≡◌, ℕ, suc, ◌+◌, List, [], ◌∷◌, ◌++◌, length, map, fold, refl, sym, ap, ◌∙◌, subst, arith, append_assoc, append-nil}
use Rattle.std.proofs.lemmas.List.{length-append, map-append, length-map}
use Rattle.s57_types.specs.declared.cell.Cell.{Cell}
use Rattle.text_spec.specs.declared.command.Command.{Command}
use Rattle.text_spec.specs.declared.command.Command.TheVariants.{View, Commit, Drop, List as Findings, Push, Guard}
use Rattle.history_spec.specs.declared.entry.Entry.{Entry}
use Rattle.history_spec.specs.declared.reply.Reply.{Reply}
use Rattle.history_spec.specs.Entries.{AreAsked, brief_of, base_told, event_asked}
use Rattle.history_spec.specs.ReportText.{transcript_from, base_after, draft_line, list_lines, reply_line}
use Rattle.history_spec.specs.Sessions.{Request, see, offer, requests_from, requests_of, event_of}
use Rattle.history_spec.specs.EntriesReport.{cell_told}
use Rattle.history_spec.specs.Served.{Draft, IsServed, no_draft, asked_by, draft_after, drafted, local_lines, later_base}
use Rattle.room_laws.specs.Served.{SharedIsServed, LocalIsServed}
use Rattle.room_laws.proofs.Reports.{base_of_brief}

prefix_trans : {A : Type 0} (xs ys zs : List A) → IsPrefix xs ys → IsPrefix ys zs → IsPrefix xs zs
prefix_trans xs ys zs p q = (p.0 ++ q.0, sym (append_assoc xs p.0 q.0) ∙ (ap (λ w. w ++ q.0) p.1 ∙ q.1))

abbrev requests_behind : Draft → List Command → List Request
requests_behind draft = requests_from draft.edits draft.guards

requests_snoc : (draft : Draft) (cs : List Command) (c : Command) → requests_behind draft (cs ++ c ∷ []) ≡ requests_behind draft cs
    ++ asked_by c (drafted draft cs)
requests_snoc draft [] View = refl
requests_snoc draft [] Commit = refl
requests_snoc draft [] Drop = refl
requests_snoc draft [] (Findings shown) = refl
requests_snoc draft [] (Push edit) = refl
requests_snoc draft [] (Guard name) = refl
requests_snoc draft (View ∷ cs) c = ap (λ rs. see ∷ rs) (requests_snoc draft cs c)
requests_snoc draft (Commit ∷ cs) c = ap (λ rs. offer draft.edits draft.guards ∷ rs) (requests_snoc no_draft cs c)
requests_snoc draft (Drop ∷ cs) c = requests_snoc no_draft cs c
requests_snoc draft (Findings shown ∷ cs) c = requests_snoc draft cs c
requests_snoc draft (Push edit ∷ cs) c = requests_snoc (draft_after (Push edit) draft) cs c
requests_snoc draft (Guard name ∷ cs) c = requests_snoc (draft_after (Guard name) draft) cs c

drafted_snoc : (draft : Draft) (cs : List Command) (c : Command) → drafted draft (cs ++ c ∷ []) ≡ draft_after c (drafted draft cs)
drafted_snoc draft [] c = refl
drafted_snoc draft (x ∷ cs) c = drafted_snoc (draft_after x draft) cs c

asked_snoc : (nall base : ℕ) (rs : List Request) (es : List Entry) (r : Request) (e : Entry) → AreAsked nall base rs es
    → event_asked e.asked ≡ event_of nall (later_base base es) r → AreAsked nall base (rs ++ r ∷ []) (es ++ e ∷ [])
asked_snoc nall base [] [] r e all is = (is, tt)
asked_snoc nall base [] (x ∷ es) r e all is = absurd all
asked_snoc nall base (q ∷ rs) [] r e all is = absurd all
asked_snoc nall base (q ∷ rs) (x ∷ es) r e all is = (all.0, asked_snoc nall (base_told x.brief base) rs es r e all.1 is)

later_snoc : (base : ℕ) (es : List Entry) (e : Entry) → later_base base (es ++ e ∷ []) ≡ base_told e.brief (later_base base es)
later_snoc base [] e = refl
later_snoc base (x ∷ es) e = later_snoc (base_told x.brief base) es e

-- the base that answers leave
abbrev replied_base : ℕ → List Reply → ℕ
replied_base = fold (λ base r. base_after r base)

replied : (base : ℕ) (rs : List Reply) (es : List Entry) → map brief_of rs ≡ map (λ (e : Entry). e.brief) es → replied_base base rs ≡ later_base base es
replied base [] [] is = refl
replied base [] (e ∷ es) is = absurd (cc is)
replied base (r ∷ rs) [] is = absurd (cc is)
replied base (r ∷ rs) (e ∷ es) is =
    ap (λ b. replied_base b rs) (base_of_brief r base ∙ ap (λ b. base_told b base) (let first : brief_of r ≡ e.brief = cc is in first))
    ∙ replied (base_told e.brief base) rs es (cc is)

-- the lines of one command more, beside the lines of those that all have their answers
abbrev one_lines : (ℕ → Cell) → ℕ → Draft → Command → List Reply → List ℕ
one_lines at base draft View [] = []
one_lines at base draft View (r ∷ rs) = reply_line r
one_lines at base draft Commit [] = []
one_lines at base draft Commit (r ∷ rs) = reply_line r
one_lines at base draft Drop rs = draft_line 0
one_lines at base draft (Findings shown) rs = list_lines base shown (at base)
one_lines at base draft (Push edit) rs = draft_line (length draft.edits + 1)
one_lines at base draft (Guard name) rs = draft_line (length draft.edits)

one_more : (at : ℕ → Cell) (base n : ℕ) (draft : Draft) (c : Command) (rs : List Reply) → n ≡ length draft.edits
    → transcript_from at base n (c ∷ []) rs ≡ one_lines at base draft c rs
one_more at base n draft View [] is = refl
one_more at base n draft View (r ∷ rs) is = append-nil (reply_line r)
one_more at base n draft Commit [] is = refl
one_more at base n draft Commit (r ∷ rs) is = append-nil (reply_line r)
one_more at base n draft Drop rs is = append-nil (draft_line 0)
one_more at base n draft (Findings shown) rs is = append-nil (list_lines base shown (at base))
one_more at base n draft (Push edit) rs is = append-nil (draft_line (n + 1)) ∙ ap (λ k. draft_line (k + 1)) is
one_more at base n draft (Guard name) rs is = append-nil (draft_line n) ∙ ap draft_line is

lines_snoc : (at : ℕ → Cell) (base n : ℕ) (draft : Draft) (cs : List Command) (c : Command) (rs more : List Reply) → n ≡ length draft.edits
    → length rs ≡ length (requests_behind draft cs)
    → transcript_from at base n (cs ++ c ∷ []) (rs ++ more) ≡ transcript_from at base n cs rs ++ one_lines at (replied_base base rs) (drafted draft cs) c more
lines_snoc at base n draft [] c [] more is l = one_more at base n draft c more is
lines_snoc at base n draft [] c (r ∷ rs) more is l = absurd (omega (arith, l))
lines_snoc at base n draft (View ∷ cs) c [] more is l = absurd (omega (arith, l))
lines_snoc at base n draft (View ∷ cs) c (r ∷ rs) more is l =
    ap (λ (t : List ℕ). reply_line r ++ t) (lines_snoc at (base_after r base) n draft cs c rs more is (omega (arith, l)))
    ∙ sym (append_assoc (reply_line r) (transcript_from at (base_after r base) n cs rs) _)
lines_snoc at base n draft (Commit ∷ cs) c [] more is l = absurd (omega (arith, l))
lines_snoc at base n draft (Commit ∷ cs) c (r ∷ rs) more is l =
    ap (λ (t : List ℕ). reply_line r ++ t) (lines_snoc at (base_after r base) 0 no_draft cs c rs more refl (omega (arith, l)))
    ∙ sym (append_assoc (reply_line r) (transcript_from at (base_after r base) 0 cs rs) _)
lines_snoc at base n draft (Drop ∷ cs) c rs more is l =
    ap (λ (t : List ℕ). draft_line 0 ++ t) (lines_snoc at base 0 no_draft cs c rs more refl l)
    ∙ sym (append_assoc (draft_line 0) (transcript_from at base 0 cs rs) _)
lines_snoc at base n draft (Findings shown ∷ cs) c rs more is l =
    ap (λ (t : List ℕ). list_lines base shown (at base) ++ t) (lines_snoc at base n draft cs c rs more is l)
    ∙ sym (append_assoc (list_lines base shown (at base)) (transcript_from at base n cs rs) _)
lines_snoc at base n draft (Push edit ∷ cs) c rs more is l =
    ap (λ (t : List ℕ). draft_line (n + 1) ++ t) (lines_snoc at base (n + 1) (draft_after (Push edit) draft) cs c rs more
    (omega (arith, is, length-append draft.edits (edit ∷ []))) l)
    ∙ sym (append_assoc (draft_line (n + 1)) (transcript_from at base (n + 1) cs rs) _)
lines_snoc at base n draft (Guard name ∷ cs) c rs more is l =
    ap (λ (t : List ℕ). draft_line n ++ t) (lines_snoc at base n (draft_after (Guard name) draft) cs c rs more is l)
    ∙ sym (append_assoc (draft_line n) (transcript_from at base n cs rs) _)

-- as many answers as requests
pub asked_length : (nall base : ℕ) (rs : List Request) (es : List Entry) → AreAsked nall base rs es → length es ≡ length rs
asked_length nall base [] [] all = refl
asked_length nall base [] (x ∷ es) all = absurd all
asked_length nall base (q ∷ rs) [] all = absurd all
asked_length nall base (q ∷ rs) (x ∷ es) all = ap suc (asked_length nall (base_told x.brief base) rs es all.1)

module _ (c : Cell) (seen entries : List Entry) (base : ℕ) (done : List Command) (draft : Draft) (lines : List ℕ)
    (s : IsServed c seen entries base done draft lines) where
  many : length s.replies ≡ length (requests_of done)
  many = sym (length-map s.replies brief_of) ∙ (ap length s.briefs
      ∙ (length-map entries (λ (e : Entry). e.brief) ∙ asked_length c.head.nall 0 (requests_of done) entries s.asked_are))

  -- a view or a commit was answered
  served_shared : (command : Command) (request : Request) (seen' : List Entry) (e : Entry) (r : Reply) → asked_by command draft ≡ request ∷ []
      → IsPrefix seen seen' → event_asked e.asked ≡ event_of c.head.nall base request → brief_of r ≡ e.brief
      → ((at : ℕ → Cell) (b : ℕ) → one_lines at b (drafted no_draft done) command (r ∷ []) ≡ reply_line r)
      → IsServed c seen' (entries ++ e ∷ []) (base_told e.brief base) (done ++ command ∷ []) (draft_after command draft) (lines ++ reply_line r)
  served_shared command request seen' e r asks grown event brief shared = record {
    asked_are = subst (λ rs. AreAsked c.head.nall 0 rs (entries ++ e ∷ []))
        (sym (requests_snoc no_draft done command ∙ ap (λ d. requests_of done ++ asked_by command d) (sym s.draft_is)
        ∙ ap (λ rs. requests_of done ++ rs) asks))
        (asked_snoc c.head.nall 0 (requests_of done) entries request e s.asked_are (event ∙ ap (λ b. event_of c.head.nall b request) s.base_is));
    base_is = ap (base_told e.brief) s.base_is ∙ sym (later_snoc 0 entries e);
    draft_is = ap (draft_after command) s.draft_is ∙ sym (drafted_snoc no_draft done command);
    replies = s.replies ++ r ∷ [];
    briefs = map-append brief_of s.replies (r ∷ []) ∙ ((λ i. s.briefs i ++ brief i ∷ []) ∙ sym (map-append (λ (e : Entry). e.brief) entries (e ∷ [])));
    lines_are = λ later p. ap (λ (l : List ℕ). l ++ reply_line r) (s.lines_are later (prefix_trans seen seen' later grown p))
        ∙ sym (lines_snoc (cell_told c later) 0 0 no_draft done command s.replies (r ∷ []) refl many
        ∙ ap (λ (l : List ℕ). transcript_from (cell_told c later) 0 0 done s.replies ++ l)
        (shared (cell_told c later) (replied_base 0 s.replies)));
  }

  -- a command that has no answer
  served_local : (command : Command) (cell : Cell) → asked_by command draft ≡ [] → ((later : List Entry) → IsPrefix seen later → cell_told c later base ≡ cell)
      → ((at : ℕ → Cell) → one_lines at base draft command [] ≡ local_lines (at base) base draft command)
      → IsServed c seen entries base (done ++ command ∷ []) (draft_after command draft) (lines ++ local_lines cell base draft command)
  served_local command cell asks copy local = record {
    asked_are = subst (λ rs. AreAsked c.head.nall 0 rs entries)
        (sym (requests_snoc no_draft done command ∙ ap (λ d. requests_of done ++ asked_by command d) (sym s.draft_is)
        ∙ (ap (λ rs. requests_of done ++ rs) asks ∙ append-nil (requests_of done)))) s.asked_are;
    base_is = s.base_is;
    draft_is = ap (draft_after command) s.draft_is ∙ sym (drafted_snoc no_draft done command);
    replies = s.replies;
    briefs = s.briefs;
    lines_are = λ later p.
        let at = cell_told c later in
        let bases : replied_base 0 s.replies ≡ base = replied 0 s.replies entries s.briefs ∙ sym s.base_is in
        ap (λ (l : List ℕ). l ++ local_lines cell base draft command) (s.lines_are later p)
        ∙ (ap (λ (d : Cell). transcript_from at 0 0 done s.replies ++ local_lines d base draft command) (sym (copy later p))
        ∙ (ap (λ (l : List ℕ). transcript_from at 0 0 done s.replies ++ l) (sym (local at))
        ∙ ((λ i. transcript_from at 0 0 done s.replies ++ one_lines at (sym bases i) (s.draft_is i) command [])
        ∙ (sym (lines_snoc at 0 0 no_draft done command s.replies [] refl many)
        ∙ ap (λ (rs : List Reply). transcript_from at 0 0 (done ++ command ∷ []) rs) (append-nil s.replies)))));
  }

  -- the history went on
  pub served_later : (seen' : List Entry) → IsPrefix seen seen' → IsServed c seen' entries base done draft lines
  served_later seen' grown = record {
    asked_are = s.asked_are;
    base_is = s.base_is;
    draft_is = s.draft_is;
    replies = s.replies;
    briefs =
        s.briefs;
    lines_are = λ later p. s.lines_are later (prefix_trans seen seen' later grown p);
  }

pub shared_served : SharedIsServed
shared_served c seen entries base done draft lines s View shared request asks after e reply grown event brief =
    served_shared c seen entries base done draft lines s View request after e reply asks grown event brief (λ at b. refl)
shared_served c seen entries base done draft lines s Commit shared request asks after e reply grown event brief =
    served_shared c seen entries base done draft lines s Commit request after e reply asks grown event brief (λ at b. refl)
shared_served c seen entries base done draft lines s Drop shared request asks after e reply grown event brief = absurd (cc shared)
shared_served c seen entries base done draft lines s (Findings shown) shared request asks after e reply grown event brief = absurd (cc shared)
shared_served c seen entries base done draft lines s (Push edit) shared request asks after e reply grown event brief = absurd (cc shared)
shared_served c seen entries base done draft lines s (Guard name) shared request asks after e reply grown event brief = absurd (cc shared)

pub local_served : LocalIsServed
local_served c seen entries base done draft lines s View own cell copy = absurd (cc own)
local_served c seen entries base done draft lines s Commit own cell copy = absurd (cc own)
local_served c seen entries base done draft lines s Drop own cell copy = served_local c seen entries base done draft lines s Drop cell refl copy (λ at. refl)
local_served c seen entries base done draft lines s (Findings shown) own cell copy =
    served_local c seen entries base done draft lines s (Findings shown) cell refl copy (λ at. refl)
local_served c seen entries base done draft lines s (Push edit) own cell copy =
    served_local c seen entries base done draft lines s (Push edit) cell refl copy (λ at. refl)
local_served c seen entries base done draft lines s (Guard name) own cell copy =
    served_local c seen entries base done draft lines s (Guard name) cell refl copy (λ at. refl)
