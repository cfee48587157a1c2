-- What each answer leaves is what the whole run leaves.
use Rattle.std.proofs.Common.{◌≡◌, ◌==◌, ℕ, Bool, true, false, List, [], ◌∷◌, ◌++◌, map, filter, fold, Option, None, Some, refl, sym}
use Rattle.std.proofs.Common.{ap, ◌∙◌, subst, append_assoc, append-nil, cond, ⊎_elim}
use Rattle.std.specs.Prelude.{option_to_list}
use Rattle.std.specs.List.{cons_option}
use Rattle.std.proofs.lemmas.Bool.{cases_Bool, eqb-true}
use Rattle.std.proofs.lemmas.List.Sums.{fold-append}
use Rattle.std.proofs.Math.Seq.{take-length}
use Rattle.s57_types.specs.declared.cell.Cell.{Cell}
use Rattle.cell_spec.specs.Edits.{apply_edits}
use Rattle.history_spec.specs.ReportText.{base_after}
use Rattle.history_spec.specs.Sessions.{Request, see, offer, history_after, replies_from, replies_to, request_step}
use Rattle.history_spec.specs.Steps.{AcceptedCommit, History, opening}
use Rattle.history_spec.specs.declared.reply.Reply.{Reply}
use Rattle.history_spec.specs.declared.reply.Reply.TheVariants.{Viewed, Formed, Newer, Refused, Accepted}
use Rattle.room_laws.proofs.Interleaved.{same_number}
use Rattle.run_laws.specs.Causes.{TellsItsCause}
use Rattle.run_laws.specs.Left.{IsLeft, accepted_of, commit_made}
use Rattle.run_laws.proofs.Causes.{step_tells}

abbrev edited : Cell → List AcceptedCommit → Cell
edited = fold (λ d (accepted : AcceptedCommit). apply_edits accepted.edits d)

abbrev told_from : ℕ → List Reply → ℕ
told_from = fold (λ base reply. base_after reply base)

-- what one answer adds
record IsStepLeft (h : History) (desk : ℕ) (request : Request) (reply : Reply) (after : History) : Type 0 where
  commits : after.commits ≡ h.commits ++ option_to_list (commit_made desk request reply)
  cell : after.cell ≡ edited h.cell (option_to_list (commit_made desk request reply))
  own : after.bases desk ≡ base_after reply (h.bases desk)
  others : (other : ℕ) → ¬ (other ≡ desk) → after.bases other ≡ h.bases other

nothing_left : (h : History) (desk : ℕ) (request : Request) (reply : Reply) (after : History) → after ≡ h → commit_made desk request reply ≡ None
    → base_after reply (h.bases desk) ≡ h.bases desk → IsStepLeft h desk request reply after
nothing_left h desk request reply after stays none base = record {
  commits = ap (λ (s : History). s.commits) stays ∙ (sym (append-nil h.commits) ∙ ap (λ o. h.commits ++ option_to_list o) (sym none));
  cell = ap (λ (s : History). s.cell) stays ∙ ap (λ o. edited h.cell (option_to_list o)) (sym none);
  own = ap (λ (s : History). s.bases desk) stays ∙ sym base;
  others = λ other apart. ap (λ (s : History). s.bases other) stays;
}

step_left : (h : History) (desk : ℕ) (request : Request) (reply : Reply) (after : History) → TellsItsCause h desk request reply after
    → IsStepLeft h desk request reply after
step_left h desk see (Viewed number findings) after cause = record {
  commits = cause.commits_stay ∙ sym (append-nil h.commits);
  cell = cause.cell_stays;
  own = cause.base.own;
  others = cause.base.others;
}
step_left h desk see (Formed fault) after cause = absurd cause
step_left h desk see (Newer number name other edit) after cause = absurd cause
step_left h desk see (Refused why) after cause = absurd cause
step_left h desk see (Accepted number findings) after cause = absurd cause
step_left h desk (offer edits guards) (Viewed number findings) after cause = absurd cause
step_left h desk (offer edits guards) (Formed fault) after cause = nothing_left h desk (offer edits guards) (Formed fault) after cause.stays refl refl
step_left h desk (offer edits guards) (Newer number name other edit) after cause =
    nothing_left h desk (offer edits guards) (Newer number name other edit) after cause.stays refl refl
step_left h desk (offer edits guards) (Refused why) after cause = nothing_left h desk (offer edits guards) (Refused why) after cause.stays refl refl
step_left h desk (offer edits guards) (Accepted number findings) after cause = record {
  commits = cause.commits_are;
  cell = cause.cell_is;
  own = cause.base.own;
  others = cause.base.others;
}

joined : {X : Type 0} (o : Option X) (xs : List X) → option_to_list o ++ xs ≡ cons_option o xs
joined None xs = refl
joined (Some x) xs = refl

-- what the answers from a state on leave
record IsLeftFrom (h : History) (requests : List (ℕ × Request)) : Type 0 where
  commits : (history_after h requests).commits ≡ h.commits ++ accepted_of requests (replies_from h requests)
  cell : (history_after h requests).cell ≡ edited h.cell (accepted_of requests (replies_from h requests))
  bases : (desk : ℕ) → (history_after h requests).bases desk ≡ told_from (h.bases desk) (replies_to desk (replies_from h requests))

one_told : (i desk : ℕ) (reply : Reply) (replies : List (ℕ × Reply)) (h after : History) → after.bases desk ≡ base_after reply (h.bases desk)
    → ((other : ℕ) → ¬ (other ≡ desk) → after.bases other ≡ h.bases other)
    → told_from (after.bases i) (replies_to i replies) ≡ told_from (h.bases i) (replies_to i ((desk, reply) ∷ replies))
one_told i desk reply replies h after own others = ⊎_elim
    (λ (t : (desk == i) ≡ true).
    let base : after.bases i ≡ base_after reply (h.bases i) =
    subst (λ k. after.bases k ≡ base_after reply (h.bases k)) (eqb-true desk i t) own in
    ap (λ b. told_from b (replies_to i replies)) base ∙ ap (λ (b : Bool). told_from (h.bases i) (map (λ (told : ℕ × Reply). told.1)
    (cond b ((desk, reply) ∷ filter (λ (told : ℕ × Reply). told.0 == i) replies) (filter (λ (told : ℕ × Reply). told.0 == i) replies)))) (sym t))
    (λ (t : (desk == i) ≡ false).
    ap (λ b. told_from b (replies_to i replies)) (others i (apart t)) ∙ ap (λ (b : Bool). told_from (h.bases i) (map (λ (told : ℕ × Reply). told.1)
    (cond b ((desk, reply) ∷ filter (λ (told : ℕ × Reply). told.0 == i) replies) (filter (λ (told : ℕ × Reply). told.0 == i) replies)))) (sym t))
    (cases_Bool (desk == i))
  where
    apart : (desk == i) ≡ false → ¬ (i ≡ desk)
    apart t same = let itself : (desk == desk) ≡ false = subst (λ k. (desk == k) ≡ false) same t in let yes = same_number desk in cc

left_from : (h : History) (requests : List (ℕ × Request)) → IsLeftFrom h requests
left_from h [] = record { commits = sym (append-nil h.commits); cell = refl; bases = λ desk. refl }
left_from h (r ∷ requests) =
    let after : History = (request_step h r).1 in
    let reply : Reply = (request_step h r).0 in
    let made : Option AcceptedCommit = commit_made r.0 r.1 reply in
    let rest : List AcceptedCommit = accepted_of requests (replies_from after requests) in
    let one = step_left h r.0 r.1 reply after (step_tells h r.0 r.1) in
    let later = left_from after requests in record {
      commits = later.commits ∙ (ap (λ l. l ++ rest) one.commits ∙ (append_assoc h.commits (option_to_list made) rest
          ∙ ap (λ l. h.commits ++ l) (joined made rest)));
      cell = later.cell ∙ (ap (λ d. edited d rest) one.cell
          ∙ (sym (fold-append (λ d (accepted : AcceptedCommit). apply_edits accepted.edits d) h.cell (option_to_list made) rest)
          ∙ ap (edited h.cell) (joined made rest)));
      bases = λ desk. later.bases desk ∙ one_told desk r.0 reply (replies_from after requests) h after one.own one.others;
    }

pub run_leaves : (c : Cell) (requests : List (ℕ × Request)) → IsLeft c requests (replies_from (opening c) requests) (history_after (opening c) requests)
run_leaves c requests =
    let all = left_from (opening c) requests in record {
      commits_are = all.commits;
      cell_is = all.cell ∙ ap (edited c) (sym (take-length (history_after (opening c) requests).commits ∙ all.commits));
      bases_are = all.bases;
    }
