-- One step of a history beside that of another which has the same cell and the same accepted commits.
use mathlib.Core.List.{IsPrefix}
use Rattle.std.proofs.Common.{◌≡◌, ℕ, ◌+◌, List, [], ◌∷◌, ◌++◌, length, refl, sym, ap, ◌∙◌, length-append, append_assoc}
use Rattle.std.proofs.lemmas.List.{append-nil}
use Rattle.cell_spec.specs.Edits.{apply_edits}
use Rattle.rule_spec.specs.Findings.{finding_total}
use Rattle.history_spec.specs.declared.reply.Reply.{Reply}
use Rattle.history_spec.specs.declared.reply.Reply.TheVariants.{Viewed, Formed, Newer, Refused, Accepted}
use Rattle.history_spec.specs.ReportText.{base_after}
use Rattle.history_spec.specs.Sessions.{Request, event_of, history_after, request_step}
use Rattle.history_spec.specs.Steps.{AcceptedCommit, Event, History, answer, commit, commit_answer, edits_asked, faulty, left_after, view}
use Rattle.room_laws.proofs.Parts.{added_by, commits_left}
use Rattle.room_laws.proofs.Steps.{IsNumbered}

-- ---- beginnings
pub prefix_then : (xs ys zs : List AcceptedCommit) → IsPrefix xs ys → IsPrefix ys zs → IsPrefix xs zs
prefix_then xs ys zs p q = (p.0 ++ q.0, sym (append_assoc xs p.0 q.0) ∙ ap (λ (l : List AcceptedCommit). l ++ q.0) p.1 ∙ q.1)

pub prefix_same : (xs ys : List AcceptedCommit) → xs ≡ ys → IsPrefix xs ys
prefix_same xs ys e = ([], append-nil xs ∙ e)

-- ---- one step
pub answers_alike : (h b : History) (event : Event) → h.cell ≡ b.cell → h.commits ≡ b.commits → answer h event ≡ answer b event
answers_alike h b view p q = λ i. Viewed (length (q i)) (finding_total (p i))
answers_alike h b (faulty fault) p q = refl
answers_alike h b (commit base edits guards) p q = λ i. commit_answer (record { cell = p i; commits = q i; bases = h.bases }) base edits guards

pub cells_alike : (h b : History) (event : Event) (reply : Reply) → h.cell ≡ b.cell → (left_after 1 event reply h).cell ≡ (left_after 1 event reply b).cell
cells_alike h b event (Viewed number findings) p = p
cells_alike h b event (Formed fault) p = p
cells_alike h b event (Newer number name other edit) p = p
cells_alike h b event (Refused refusal) p = p
cells_alike h b event (Accepted number findings) p = ap (apply_edits (edits_asked event)) p

pub commits_alike : (h b : History) (event : Event) (reply : Reply) → h.commits ≡ b.commits
    → (left_after 1 event reply h).commits ≡ (left_after 1 event reply b).commits
commits_alike h b event reply q =
    commits_left 1 event reply h ∙ ap (λ (l : List AcceptedCommit). l ++ added_by 1 event reply) q ∙ sym (commits_left 1 event reply b)

one_more : (commits : List AcceptedCommit) (one : AcceptedCommit) → length commits + 1 ≡ length (commits ++ one ∷ [])
one_more commits one = sym (length-append commits (one ∷ []))

-- the desk's base is the newest commit again
pub base_left : (h : History) (event : Event) (reply : Reply) → IsNumbered h.commits reply → h.bases 1 ≡ length h.commits
    → (left_after 1 event reply h).bases 1 ≡ length (left_after 1 event reply h).commits
base_left h event (Viewed number findings) is base = is
base_left h event (Formed fault) is base = base
base_left h event (Newer number name other edit) is base = base
base_left h event (Refused refusal) is base = base
base_left h event (Accepted number findings) is base = one_more h.commits (record { desk = 1; edits = edits_asked event })

-- and so is the base in the lines
pub base_told : (h : History) (event : Event) (reply : Reply) → IsNumbered h.commits reply
    → base_after reply (length h.commits) ≡ length (left_after 1 event reply h).commits
base_told h event (Viewed number findings) is = is
base_told h event (Formed fault) is = refl
base_told h event (Newer number name other edit) is = refl
base_told h event (Refused refusal) is = refl
base_told h event (Accepted number findings) is = is ∙ one_more h.commits (record { desk = 1; edits = edits_asked event })

-- a step only adds commits
pub step_grows : (h : History) (event : Event) (reply : Reply) → IsPrefix h.commits (left_after 1 event reply h).commits
step_grows h event reply = (added_by 1 event reply, sym (commits_left 1 event reply h))

request_grows : (h : History) (request : ℕ × Request) → IsPrefix h.commits (request_step h request).1.commits
request_grows h (desk, request) =
    let event = event_of h.cell.head.nall (h.bases desk) request in
    (added_by desk event (answer h event), sym (commits_left desk event (answer h event) h))

pub steps_grow : (h : History) (requests : List (ℕ × Request)) → IsPrefix h.commits (history_after h requests).commits
steps_grow h [] = prefix_same h.commits h.commits refl
steps_grow h (request ∷ requests) =
    let next = (request_step h request).1 in
    prefix_then h.commits next.commits (history_after next requests).commits (request_grows h request) (steps_grow next requests)
