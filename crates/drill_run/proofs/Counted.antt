-- What is counted in the entries of a log is what is counted in the run of its scripts.
use Rattle.std.proofs.Common.{◌≡◌, ℕ, ◌+◌, [], ◌∷◌, List, length, map, refl, sym, ap, ◌∙◌, subst}
use Rattle.std.specs.Prelude.{Bool, cond, count_by}
use Rattle.std.proofs.lemmas.List.Sums.{sum_by-cons}
use Rattle.s57_types.specs.declared.cell.Cell.{Cell}
use Rattle.rule_spec.specs.Findings.{finding_total}
use Rattle.text_spec.specs.declared.command.Command.{Command}
use Rattle.history_spec.specs.declared.entry.Entry.{Entry}
use Rattle.history_spec.specs.declared.reply.Brief.{Brief}
use Rattle.history_spec.specs.declared.reply.Reply.{Reply}
use Rattle.history_spec.specs.Entries.{AreInterleaved, order_of_entries, replayed}
use Rattle.history_spec.specs.Sessions.{ordered_requests, replies_from}
use Rattle.history_spec.specs.Steps.{opening}
use Rattle.room_laws.specs.Interleaved.{IsRunOfEntries, entered_brief, told_brief}
use Rattle.sessions.specs.Replays.{IsReplayed}
use Rattle.sessions.specs.declared.run.Replayed.{Replayed}
use Rattle.drill_run.specs.declared.counts.Drilled.{Drilled}
use Rattle.drill_run.specs.Drills.{counts_of_run, is_refusal, is_refused_entry, is_refused_reply}

-- what is counted in a list is counted in another whose items are those of the first
count_of_map : {X Y : Type 0} (test : Y → Bool) (item : X → Y) (xs : List X) → count_by (λ x. test (item x)) xs ≡ count_by test (map item xs)
count_of_map test item [] = refl
count_of_map test item (x ∷ xs) =
    sum_by-cons (λ y. cond (test (item y)) 1 0) x xs ∙ ap (λ n. cond (test (item x)) 1 0 + n) (count_of_map test item xs)
    ∙ sym (sum_by-cons (λ y. cond (test y) 1 0) (item x) (map item xs))

abbrev is_refused : ℕ × Brief → Bool
is_refused told = is_refusal told.1

same_refusals : (replies : List (ℕ × Reply)) (entries : List Entry) → map told_brief replies ≡ map entered_brief entries
    → count_by is_refused_reply replies ≡ count_by is_refused_entry entries
same_refusals replies entries same =
    count_of_map is_refused told_brief replies ∙ ap (count_by is_refused) same ∙ sym (count_of_map is_refused entered_brief entries)

abbrev counts : ℕ → ℕ → ℕ → Drilled
counts accepted refused findings = record { accepted = accepted; refused = refused; findings = findings }

-- the counts that a log tells
pub counts_of_log : (c : Cell) (scripts : List (List Command)) (entries : List Entry) (accepted refused findings : ℕ)
    → accepted ≡ length (replayed c entries).commits → refused ≡ count_by is_refused_entry entries
    → findings ≡ finding_total (replayed c entries).cell → IsRunOfEntries c scripts entries
    → counts accepted refused findings ≡ counts_of_run c scripts (order_of_entries entries)
unfolding counts_of_run
counts_of_log c scripts entries accepted refused findings commits refusals total run =
    let same = same_refusals (replies_from (opening c) (ordered_requests scripts (order_of_entries entries))) entries run.replies in
    (λ i. counts (commits i) (refusals i) (total i)) ∙ (λ i. counts (length (sym run.state i).commits) (sym same i) (finding_total (sym run.state i).cell))

-- the counts of a run are those of its scripts in its order
pub counts_of_replay : (c : Cell) (scripts generated : List (List Command)) (order turns : List ℕ) (run : Replayed) (drilled : Drilled)
    → IsReplayed c scripts order run
    → ((told : List (List Command)) → AreInterleaved run.book.opening told run.book.entries
    → drilled ≡ counts_of_run run.book.opening told (order_of_entries run.book.entries))
    → scripts ≡ generated → order ≡ turns → drilled ≡ counts_of_run c generated turns
counts_of_replay c scripts generated order turns run drilled is told are in_turns =
    told scripts (subst (λ (start : Cell). AreInterleaved start scripts run.book.entries) (sym is.opening) is.entries)
    ∙ (λ i. counts_of_run (is.opening i) (are i) ((is.order_is ∙ in_turns) i))
