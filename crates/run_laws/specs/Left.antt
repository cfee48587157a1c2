-- What a run leaves of the history, by what was asked and answered. This project's own rules.
use Rattle.std.specs.Prelude.{◌≡◌, ℕ, List, length, fold, filter_map, Option, None, Some}
use Rattle.std.specs.List.{zip}
use Rattle.s57_types.specs.declared.cell.Cell.{Cell}
use Rattle.history_spec.specs.ReportText.{base_after}
use Rattle.history_spec.specs.Sessions.{Request, see, offer, replies_to}
use Rattle.history_spec.specs.Steps.{AcceptedCommit, History, cell_after}
use Rattle.history_spec.specs.declared.reply.Reply.{Reply}
use Rattle.history_spec.specs.declared.reply.Reply.TheVariants.{Viewed, Formed, Newer, Refused, Accepted}

-- the commit that an accepted draft is
abbrev pub commit_made : ℕ → Request → Reply → Option AcceptedCommit
commit_made desk see reply = None
commit_made desk (offer edits guards) (Viewed number findings) = None
commit_made desk (offer edits guards) (Formed fault) = None
commit_made desk (offer edits guards) (Newer number name other edit) = None
commit_made desk (offer edits guards) (Refused why) = None
commit_made desk (offer edits guards) (Accepted number findings) = Some (record { desk = desk; edits = edits })

-- the accepted drafts of requests with their answers, in their order
abbrev pub accepted_of : List (ℕ × Request) → List (ℕ × Reply) → List AcceptedCommit
accepted_of requests replies = filter_map (λ (p : (ℕ × Request) × (ℕ × Reply)). commit_made p.0.0 p.0.1 p.1.1) (zip requests replies)

-- the number that the last view or accepted commit among answers told; 0 where there is none
abbrev pub last_told : List Reply → ℕ
last_told = fold (λ base reply. base_after reply base) 0

-- the commits are the accepted drafts, each once and in order, the cell is the first one after all of them, and each desk rests on the number that
-- it was last told
pub record IsLeft (c : Cell) (requests : List (ℕ × Request)) (replies : List (ℕ × Reply)) (h : History) : Type 0 where
  pub commits_are : h.commits ≡ accepted_of requests replies
  pub cell_is : h.cell ≡ cell_after (length h.commits) h.commits c
  pub bases_are : (desk : ℕ) → h.bases desk ≡ last_told (replies_to desk replies)
