-- What sessions have left at their end, one more at a time.
use Rattle.std.proofs.Common.{◌≡◌, ℕ, suc, ◌+◌, ◌<◌, ◌≤◌, List, [], ◌∷◌, ◌++◌, length, sym, subst, arith, ⊎_elim}
use Rattle.std.specs.Prelude.{slice_index_or}
use Rattle.std.proofs.lemmas.Bool.{cases_lt}
use Rattle.std.proofs.lemmas.List.{get_or_append_left, get_or_push, length-append}
use Rattle.s57_types.specs.declared.cell.Cell.{Cell}
use Rattle.text_spec.specs.declared.command.Command.{Command}
use Rattle.history_spec.specs.declared.entry.Entry.{Entry}
use Rattle.history_spec.specs.Entries.{AreAsked, entries_of}
use Rattle.history_spec.specs.EntriesReport.{AreTranscripts, IsTranscript}
use Rattle.history_spec.specs.Sessions.{requests_of}
use Rattle.sessions.specs.Replays.{AreEndedAs, IsEndedAs}

-- the lines of one session more
pub transcripts_more : (c : Cell) (entries : List Entry) (n : ℕ) (scripts : List (List Command)) (texts : List (List ℕ))
    (script : List Command) (text : List ℕ) → AreTranscripts c entries n scripts texts
    → IsTranscript c entries (n + length scripts) script text → AreTranscripts c entries n (scripts ++ script ∷ []) (texts ++ text ∷ [])
transcripts_more c entries n [] [] script text all one = (subst (λ k. IsTranscript c entries k script text) (omega arith) one, tt)
transcripts_more c entries n [] (t ∷ texts) script text all one = absurd all
transcripts_more c entries n (s ∷ scripts) [] script text all one = absurd all
transcripts_more c entries n (s ∷ scripts) (t ∷ texts) script text all one =
    (all.0, transcripts_more c entries (n + 1) scripts texts script text all.1 (subst (λ k. IsTranscript c entries k script text) (omega arith) one))

script_more : (c : Cell) (entries : List Entry) (scripts : List (List Command)) (script : List Command)
    → ((i : ℕ) → i < length scripts → AreAsked c.head.nall 0 (requests_of (slice_index_or scripts i [])) (entries_of (suc i) entries))
    → AreAsked c.head.nall 0 (requests_of script) (entries_of (suc (length scripts)) entries) → (i : ℕ) → i < length (scripts ++ script ∷ [])
    → AreAsked c.head.nall 0 (requests_of (slice_index_or (scripts ++ script ∷ []) i [])) (entries_of (suc i) entries)
script_more c entries scripts script all one i within =
    let many = length-append scripts (script ∷ []) in
    ⊎_elim (λ (low : i < length scripts). subst (λ s. AreAsked c.head.nall 0 (requests_of s) (entries_of (suc i) entries))
    (sym (get_or_append_left scripts (script ∷ []) [] i low)) (all i low))
    (λ (high : length scripts ≤ i).
    let last : length scripts ≡ i = omega (arith, within, many, high) in
    subst (λ s. AreAsked c.head.nall 0 (requests_of s) (entries_of (suc i) entries)) (sym (get_or_push scripts script [] i last))
    (subst (λ k. AreAsked c.head.nall 0 (requests_of script) (entries_of (suc k) entries)) last one))
    (cases_lt i (length scripts))

pub ended_more : (c : Cell) (entries : List Entry) (scripts : List (List Command)) (texts : List (List ℕ)) (script : List Command)
    (text : List ℕ) → AreEndedAs c entries scripts texts → IsEndedAs c entries (suc (length scripts)) script text
    → AreEndedAs c entries (scripts ++ script ∷ []) (texts ++ text ∷ [])
ended_more c entries scripts texts script text all one = record {
  asked = script_more c entries scripts script all.asked one.asked;
  transcripts = transcripts_more c entries 1 scripts texts script text all.transcripts
      (subst (λ k. IsTranscript c entries k script text) (let same : suc (length scripts) ≡ 1 + length scripts = omega arith in same) one.transcript);
}
