-- One step of the editing history of a cell: a view, a commit with a fault of form, or a commit. This project's own rules.
use Rattle.std.specs.Prelude.{ℕ, ◌+◌, ◌==◌, nat_lt, List, [], ◌∷◌, ◌++◌, length, map, take, drop, filter, filter_map, fold, is_some, Option, None, Some}
use Rattle.std.specs.Prelude.{if◌then◌else◌}
use Rattle.std.specs.List.{list_any, enumerate_from}
use Rattle.std.specs.Option.{option_map, option_map_or, option_and_then}
use Rattle.s57_types.specs.declared.name.RecName.{RecName}
use Rattle.s57_types.specs.declared.cell.Cell.{Cell}
use Rattle.s57_types.specs.RecordFields.{identification_length}
use Rattle.cell_spec.specs.Ascending.{ascending}
use Rattle.cell_spec.specs.Edits.{name_of_edit, edit_of, head_after, leave_a_long_head, apply_edits}
use Rattle.cell_spec.specs.Lookup.{all_records, name_of, listed_record}
use Rattle.cell_spec.specs.Names.{name_order, same_name}
use Rattle.cell_spec.specs.Writable.{record_limit}
use Rattle.cell_spec.specs.declared.edit.Edit.{Edit}
use Rattle.cell_spec.specs.declared.edit.Edit.TheVariants.{Add, Set, Del, Head}
use Rattle.rule_spec.specs.Findings.{finding_total}
use Rattle.edit_sets.specs.declared.fault.FormFault.{FormFault}
use Rattle.history_spec.specs.declared.refusal.StateRefusal.{StateRefusal}
use Rattle.history_spec.specs.declared.refusal.StateRefusal.TheVariants.{AddExists, SetMissing, DelMissing, CellFull, FindingsFull, HeadTooLong}
use Rattle.history_spec.specs.declared.reply.Reply.{Reply}
use Rattle.history_spec.specs.declared.reply.Reply.TheVariants.{Viewed, Formed, Newer, Refused, Accepted}

-- how many findings a cell may have
abbrev pub finding_limit : ℕ
finding_limit = 262144

-- an accepted commit: the desk that made it, and its edits
pub record AcceptedCommit : Type 0 where
  pub desk : ℕ
  pub edits : List Edit

-- the state: the cell, the accepted commits, which count from 1, and the base of each desk: the number of the accepted commit at which the
-- desk's copy of the cell stands
pub record History : Type 0 where
  pub cell : Cell
  pub commits : List AcceptedCommit
  pub bases : ℕ → ℕ

-- at first there is no commit
abbrev pub opening : Cell → History
opening c = record { cell = c; commits = []; bases = λ desk. 0 }

-- what a desk may ask: to see the newest state, or to commit edits with guards on a base; a draft with a fault of form is told with its fault
pub data Event : Type 0 where
  view : Event
  faulty : FormFault → Event
  commit : ℕ → List Edit → List RecName → Event

-- the first of a list
abbrev pub first_of : {X : Type 0} → List X → Option X
first_of [] = None
first_of (x ∷ xs) = Some x

-- the names that edits and guards rest on and that other edits change
abbrev pub contested_names : List Edit → List RecName → List Edit → List RecName
contested_names edits guards others = filter (λ n. list_any (λ other. same_name n (name_of_edit other)) others) (map name_of_edit edits ++ guards)

-- the answer where an accepted commit changes what the edits change or their guards name: the least such name in it, and its edit of that name
abbrev pub clash_with : List Edit → List RecName → ℕ × AcceptedCommit → Option Reply
clash_with edits guards (number, accepted) =
    option_and_then (λ n. option_map (Newer number n accepted.desk) (edit_of n accepted.edits))
    (first_of (ascending name_order (contested_names edits guards accepted.edits)))

-- the answer where a commit above the base does: the one with the least number
abbrev pub newer_answer : List AcceptedCommit → ℕ → List Edit → List RecName → Option Reply
newer_answer commits base edits guards = first_of (filter_map (clash_with edits guards) (drop base (enumerate_from 1 commits)))

-- why a cell doesn't take an edit; it takes each edit of the head
abbrev pub edit_refusal : Cell → Edit → Option StateRefusal
edit_refusal c (Add r) = if is_some (listed_record c (name_of r)) then Some (AddExists (name_of r)) else None
edit_refusal c (Set r) = if is_some (listed_record c (name_of r)) then None else Some (SetMissing (name_of r))
edit_refusal c (Del n) = if is_some (listed_record c n) then None else Some (DelMissing n)
edit_refusal c (Head e) = None

-- why the cell that edits would leave is too large: its records, then its head where they edit it, then its findings
abbrev pub size_refusal : Cell → List Edit → Option StateRefusal
size_refusal c edits =
    if nat_lt record_limit (length (all_records (apply_edits edits c))) then Some (CellFull (length (all_records (apply_edits edits c)))) else
    (if leave_a_long_head edits c then Some (HeadTooLong (identification_length (head_after edits c.head))) else
    (if nat_lt finding_limit (finding_total (apply_edits edits c)) then Some FindingsFull else None))

-- why a cell doesn't take edits: the first edit that it doesn't take, then the size of the edited cell
abbrev pub state_refusal : Cell → List Edit → Option StateRefusal
state_refusal c edits = option_map_or Some (first_of (filter_map (edit_refusal c) edits)) (size_refusal c edits)

-- the answer to a commit: a newer commit goes before a refusal of the cell
abbrev pub commit_answer : History → ℕ → List Edit → List RecName → Reply
commit_answer h base edits guards = option_map_or (λ reply. reply) (newer_answer h.commits base edits guards)
    (option_map_or Refused (state_refusal h.cell edits) (Accepted (length h.commits + 1) (finding_total (apply_edits edits h.cell))))

-- the answer to what a desk asks
abbrev pub answer : History → Event → Reply
answer h view = Viewed (length h.commits) (finding_total h.cell)
answer h (faulty fault) = Formed fault
answer h (commit base edits guards) = commit_answer h base edits guards

-- the base of one desk is now another
abbrev pub with_base : ℕ → ℕ → (ℕ → ℕ) → ℕ → ℕ
with_base desk base bases other = if other == desk then base else bases other

-- what an accepted commit leaves
abbrev pub with_commit : ℕ → List Edit → History → History
with_commit desk edits h = record {
  cell = apply_edits edits h.cell;
  commits = h.commits ++ (record { desk = desk; edits = edits } ∷ []);
  bases = with_base desk (length h.commits + 1) h.bases;
}

abbrev pub edits_asked : Event → List Edit
edits_asked view = []
edits_asked (faulty fault) = []
edits_asked (commit base edits guards) = edits

-- what an answer leaves: only an accepted commit changes the cell, and a view moves the desk's base
abbrev pub left_after : ℕ → Event → Reply → History → History
left_after desk event (Viewed number findings) h = record h { bases = with_base desk number h.bases }
left_after desk event (Formed fault) h = h
left_after desk event (Newer number name other edit) h = h
left_after desk event (Refused refusal) h = h
left_after desk event (Accepted number findings) h = with_commit desk (edits_asked event) h

-- one step: the answer, and the state after it
abbrev pub step : History → ℕ → Event → Reply × History
step h desk event = (answer h event, left_after desk event (answer h event) h)

-- a cell after some of the accepted commits
abbrev pub cell_after : ℕ → List AcceptedCommit → Cell → Cell
cell_after n commits c = fold (λ d (accepted : AcceptedCommit). apply_edits accepted.edits d) c (take n commits)
