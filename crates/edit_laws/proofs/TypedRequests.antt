-- What scripts ask is as its types have it, where the scripts are.
use Rattle.std.proofs.Common.{ℕ, zero, suc, ◌-◌, List, [], ◌∷◌, ◌++◌, Option, None, Some}
use Rattle.std.specs.Prelude.{IfSome, filter_map, count_by, take, slice_get, slice_index_or, ◌==◌}
use Rattle.std.specs.List.{AllByRecursion, cons_option, enumerate_from}
use Rattle.std.specs.Option.{option_map}
use Rattle.s57_types.specs.declared.name.RecName.{RecName}
use Rattle.text_spec.specs.declared.command.Command.{Command}
use Rattle.text_spec.specs.declared.command.Command.TheVariants.{View, Commit, Drop, List as Findings, Push, Guard}
use Rattle.cell_spec.specs.declared.edit.Edit.{Edit}
use Rattle.history_spec.specs.Sessions.{Request, requests_from, requests_of, script_of, request_at, ordered_requests}
use Rattle.edit_laws.specs.ReadBackAfterRuns.{EditHasItsTypes, CommandHasItsTypes}
use Rattle.edit_laws.proofs.Runs.{Offers}
use Rattle.cell_spec.proofs.EachItem.{each_append}

abbrev pub RequestHasItsTypes : ℕ → Request → Type 0
RequestHasItsTypes nall = Offers (AllByRecursion (EditHasItsTypes nall))

-- the requests of a script's commands, from a draft on
requests_typed : (nall : ℕ) (edits : List Edit) (guards : List RecName) (commands : List Command) → AllByRecursion (EditHasItsTypes nall) edits
    → AllByRecursion (CommandHasItsTypes nall) commands
    → AllByRecursion (RequestHasItsTypes nall) (requests_from edits guards commands)
requests_typed nall edits guards [] drafted typed = tt
requests_typed nall edits guards (View ∷ commands) drafted typed = (tt, requests_typed nall edits guards commands drafted typed.1)
requests_typed nall edits guards (Commit ∷ commands) drafted typed = (drafted, requests_typed nall [] [] commands tt typed.1)
requests_typed nall edits guards (Drop ∷ commands) drafted typed = requests_typed nall [] [] commands tt typed.1
requests_typed nall edits guards (Findings shown ∷ commands) drafted typed = requests_typed nall edits guards commands drafted typed.1
requests_typed nall edits guards (Push edit ∷ commands) drafted typed =
    requests_typed nall (edits ++ (edit ∷ [])) guards commands (each_append (EditHasItsTypes nall) edits (edit ∷ []) drafted (typed.0, tt)) typed.1
requests_typed nall edits guards (Guard name ∷ commands) drafted typed = requests_typed nall edits (guards ++ (name ∷ [])) commands drafted typed.1

-- the one at a place
at_place : {X : Type 0} (P : X → Type 0) (xs : List X) (k : ℕ) → AllByRecursion P xs → IfSome (slice_get xs k) P
at_place P [] k all = tt
at_place P (x ∷ xs) zero all = all.0
at_place P (x ∷ xs) (suc k) all = at_place P xs k all.1

at_place_or : {X : Type 0} (P : X → Type 0) (xs : List X) (k : ℕ) (d : X) → AllByRecursion P xs → P d → P (slice_index_or xs k d)
at_place_or P [] k d all other = other
at_place_or P (x ∷ xs) zero d all other = all.0
at_place_or P (x ∷ xs) (suc k) d all other = at_place_or P xs k d all.1 other

with_session : (nall session : ℕ) (o : Option Request) → IfSome o (RequestHasItsTypes nall)
    → IfSome (option_map (λ request. (session, request)) o) (λ (r : ℕ × Request). RequestHasItsTypes nall r.1)
with_session nall session None typed = tt
with_session nall session (Some request) typed = typed

one_more : (P : ℕ × Request → Type 0) (o : Option (ℕ × Request)) (rest : List (ℕ × Request)) → IfSome o P → AllByRecursion P rest
    → AllByRecursion P (cons_option o rest)
one_more P None rest one others = others
one_more P (Some r) rest one others = (one, others)

ordered_typed : (nall : ℕ) (scripts : List (List Command)) (order : List ℕ) (places : List (ℕ × ℕ))
    → AllByRecursion (AllByRecursion (CommandHasItsTypes nall)) scripts
    → AllByRecursion (λ (r : ℕ × Request). RequestHasItsTypes nall r.1) (filter_map (request_at scripts order) places)
ordered_typed nall scripts order [] typed = tt
ordered_typed nall scripts order (p ∷ places) typed =
    let script : AllByRecursion (CommandHasItsTypes nall) (script_of scripts p.1) =
    at_place_or (AllByRecursion (CommandHasItsTypes nall)) scripts (p.1 - 1) [] typed tt in
    let k = count_by (λ other. other == p.1) (take p.0 order) in
    one_more (λ (r : ℕ × Request). RequestHasItsTypes nall r.1) (request_at scripts order p) (filter_map (request_at scripts order) places)
    (with_session nall p.1 (slice_get (requests_of (script_of scripts p.1)) k)
    (at_place (RequestHasItsTypes nall) (requests_of (script_of scripts p.1)) k (requests_typed nall [] [] (script_of scripts p.1) tt script)))
    (ordered_typed nall scripts order places typed)

pub requests_are_typed : (nall : ℕ) (scripts : List (List Command)) (order : List ℕ) → AllByRecursion (AllByRecursion (CommandHasItsTypes nall)) scripts
    → AllByRecursion (λ (r : ℕ × Request). RequestHasItsTypes nall r.1) (ordered_requests scripts order)
requests_are_typed nall scripts order typed = ordered_typed nall scripts order (enumerate_from 0 order) typed
