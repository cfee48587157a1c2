-- A cause has one answer.
use Rattle.std.proofs.Common.{◌≡◌, ◌⊎◌, inl, inr, ℕ, ◌+◌, ◌-◌, ◌<◌, ◌≤◌, Bool, true, false, List, length, map, take, All, Option, None, Some, refl, sym}
use Rattle.std.proofs.Common.{ap, ◌∙◌, subst, arith, get_or}
use Rattle.std.specs.Prelude.{slice_get, nat_lt}
use Rattle.std.specs.Option.{option_map_or}
use Rattle.std.specs.Ordering.{ordering_reverse}
use Rattle.std.specs.declared.cmp.Ordering.TheVariants.{Less}
use Rattle.std.proofs.lemmas.Bool.{both_ways as contradiction, ltb-false, ltb-true}
use Rattle.std.proofs.lemmas.List.{get_or-map, get_or-take, length-map, length-take-le}
use Rattle.std.proofs.lemmas.Option.{get_or_from_slice_get, slice_get_within}
use Rattle.s57_types.specs.declared.cell.Cell.{Cell}
use Rattle.s57_types.specs.declared.name.RecName.{RecName}
use Rattle.cell_spec.specs.Edits.{apply_edits, edit_of, has_its_record, name_of_edit}
use Rattle.cell_spec.specs.Names.{name_order, same_name}
use Rattle.cell_spec.specs.declared.edit.Edit.{Edit}
use Rattle.cell_spec.proofs.Orders.{total_names}
use Rattle.rule_spec.specs.Findings.{finding_total}
use Rattle.edit_sets.specs.FormFault.{IsFormed, form_fault, unfitness_of_edit}
use Rattle.edit_sets.specs.declared.fault.FormFault.{FormFault}
use Rattle.edit_sets.specs.declared.fault.FormFault.TheVariants.{Empty, TooMany, Twice, Unfit, TooManyGuards}
use Rattle.history_spec.specs.Sessions.{Request, see, offer, request_step}
use Rattle.history_spec.specs.Steps.{AcceptedCommit, History, answer, commit, faulty, newer_answer, state_refusal}
use Rattle.history_spec.specs.declared.refusal.StateRefusal.{StateRefusal}
use Rattle.history_spec.specs.declared.refusal.StateRefusal.TheVariants.{AddExists, SetMissing, DelMissing, CellFull, FindingsFull, HeadTooLong}
use Rattle.history_spec.specs.declared.reply.Reply.{Reply}
use Rattle.history_spec.specs.declared.reply.Reply.TheVariants.{Viewed, Formed, Newer, Refused, Accepted}
use Rattle.run_laws.specs.Causes.{TellsItsCause}
use Rattle.run_laws.specs.Contests.{AreUncontested, IsContested, ShowsNewer}
use Rattle.run_laws.specs.Faults.{IsTwice, ShowsFault}
use Rattle.run_laws.specs.Refusals.{AreTaken, IsFirstWithout, ShowsRefusal}
use Rattle.run_laws.proofs.Contests.{itself}
use Rattle.run_laws.proofs.Faults.{fault_told}
use Rattle.run_laws.proofs.Newer.{NewerTold, newer_told}
use Rattle.run_laws.proofs.Refusals.{RefusalTold, refusal_told}

at_place : {X : Type 0} (P : X → Type 0) (xs : List X) (k : ℕ) (x : X) → All P xs → slice_get xs k ≡ Some x → P x
at_place P xs k x all there = subst P (get_or_from_slice_get xs k x x there) (all k x (slice_get_within xs k x there))

-- ---- a formed draft has no fault
module _ (nall : ℕ) (edits : List Edit) (guards : List RecName) (formed : IsFormed nall edits guards) where
  not_twice : (place : ℕ) → IsTwice nall edits guards place → ⊥
  not_twice place t =
      let p : ℕ = place - 1 in
      let k : ℕ = t.again.0 in
      let name : RecName = name_of_edit t.edit in
      let there : p < length edits = slice_get_within edits p t.edit t.reached.there in
      let taken : length (take p edits) ≡ p = length-take-le p edits (omega (arith, there)) in
      let mapped : length (map name_of_edit (take p edits)) ≡ length (take p edits) = length-map (take p edits) name_of_edit in
      let inside = t.again.1 in
      let below : k < p = omega (arith, inside, mapped, taken) in
      let one : name_of_edit (get_or edits k t.edit) ≡ name =
      ap name_of_edit (sym (get_or-take p edits k t.edit below))
      ∙ (sym (get_or-map name_of_edit (take p edits) k t.edit name (omega (arith, below, taken))) ∙ t.again.2) in
      let other : name_of_edit (get_or edits p t.edit) ≡ name = ap name_of_edit (get_or_from_slice_get edits p t.edit t.edit t.reached.there) in
      contradiction (same_name name name)
      ((λ i. same_name (sym one i) (sym other i)) ∙ formed.distinct k p t.edit below there) (itself name)

  no_fault : (fault : FormFault) → ShowsFault nall edits guards fault → ⊥
  no_fault Empty shows = let some = formed.some in omega (arith, some, shows)
  no_fault (TooMany count) shows = let few = formed.bounded in let is = shows.0 in let over = shows.1 in omega (arith, few, is, over)
  no_fault (TooManyGuards count) shows =
      let few = formed.guards_bounded in let is = shows.count_is in let over = shows.over in omega (arith, few, is, over)
  no_fault (Twice place) shows = not_twice place shows
  no_fault (Unfit place why) shows =
      let fit = at_place (λ edit. unfitness_of_edit nall edit ≡ None) edits (place - 1) shows.edit formed.fit shows.reached.there in
      let unfit = shows.unfit in cc

  form_is : form_fault nall edits guards ≡ None
  form_is = by (form_fault nall edits guards) refl
    where
      by : (o : Option FormFault) → form_fault nall edits guards ≡ o → form_fault nall edits guards ≡ None
      by None is = is
      by (Some fault) is = absurd (no_fault fault (fault_told nall edits guards fault is))

-- ---- the commit that is shown is one
module _ (commits : List AcceptedCommit) (base : ℕ) (edits : List Edit) (guards : List RecName) where
  not_before : (n m : ℕ) (name other : RecName) (desk desk' : ℕ) (edit edit' : Edit) → ShowsNewer commits base edits guards n name desk edit
      → ShowsNewer commits base edits guards m other desk' edit' → n < m → ⊥
  not_before n m name other desk desk' edit edit' p q below = q.first n p.accepted p.newer below name p.contested

  least_once : (n m : RecName) → (n ≡ m) ⊎ (name_order n m ≡ Less) → (m ≡ n) ⊎ (name_order m n ≡ Less) → n ≡ m
  least_once n m (inl same) q = same
  least_once n m (inr less) (inl same) = sym same
  least_once n m (inr less) (inr more) = let turned = total_names.antisymm n m ∙ ap ordering_reverse more in cc

  same_shown : (n m : ℕ) (name other : RecName) (desk desk' : ℕ) (edit edit' : Edit) → ShowsNewer commits base edits guards n name desk edit
      → ShowsNewer commits base edits guards m other desk' edit' → Newer n name desk edit ≡ Newer m other desk' edit'
  same_shown n m name other desk desk' edit edit' p q =
      let low : m ≤ n = by_test n m (nat_lt n m) refl (not_before n m name other desk desk' edit edit' p q) in
      let high : n ≤ m = by_test m n (nat_lt m n) refl (not_before m n other name desk' desk edit' edit q p) in
      let numbers : n ≡ m = omega (arith, low, high) in
      let somes : Some p.accepted ≡ Some q.accepted = sym p.newer.there ∙ (ap (λ k. slice_get commits (k - 1)) numbers ∙ q.newer.there) in
      let accepted : p.accepted ≡ q.accepted = cc in
      let names : name ≡ other = least_once name other
      (p.least other (subst (λ a. IsContested edits guards a other) (sym accepted) q.contested))
      (q.least name (subst (λ a. IsContested edits guards a name) accepted p.contested)) in
      let found : Some edit ≡ Some edit' = sym p.edit_is ∙ ((λ i. edit_of (names i) (accepted i).edits) ∙ q.edit_is) in
      let edits_are : edit ≡ edit' = cc in
      let desks : desk ≡ desk' = p.desk_is ∙ (ap (λ (a : AcceptedCommit). a.desk) accepted ∙ sym q.desk_is) in
      λ i. Newer (numbers i) (names i) (desks i) (edits_are i)
    where
      by_test : (a b : ℕ) (t : Bool) → nat_lt a b ≡ t → (a < b → ⊥) → b ≤ a
      by_test a b true below never = absurd (never (ltb-true a b below))
      by_test a b false above never = ltb-false a b above

  newer_none : AreUncontested commits base edits guards → newer_answer commits base edits guards ≡ None
  newer_none alone = by (newer_answer commits base edits guards) (newer_told commits base edits guards)
    where
      by : (o : Option Reply) → NewerTold commits base edits guards o → o ≡ None
      by None told = refl
      by (Some reply) told = absurd (alone told.number told.shows.accepted told.shows.newer told.name told.shows.contested)

  newer_is : (number : ℕ) (name : RecName) (desk : ℕ) (edit : Edit) → ShowsNewer commits base edits guards number name desk edit
      → newer_answer commits base edits guards ≡ Some (Newer number name desk edit)
  newer_is number name desk edit shows = by (newer_answer commits base edits guards) (newer_told commits base edits guards)
    where
      by : (o : Option Reply) → NewerTold commits base edits guards o → o ≡ Some (Newer number name desk edit)
      by None told = absurd (told number shows.accepted shows.newer name shows.contested)
      by (Some reply) told = ap Some (told.is ∙ same_shown told.number number told.name name told.desk desk told.edit edit told.shows shows)

-- ---- edits that a cell takes aren't refused
module _ (c : Cell) (edits : List Edit) (taken : AreTaken c edits) where
  none_without : (edit : Edit) → IsFirstWithout c edits edit → ⊥
  none_without edit w = contradiction (has_its_record c edit) w.without
      (at_place (λ e. has_its_record c e ≡ true) edits w.place edit taken.room.found w.there)

  no_refusal : (why : StateRefusal) → ShowsRefusal c edits why → ⊥
  no_refusal (AddExists name) shows = none_without _ shows.first
  no_refusal (SetMissing name) shows = none_without _ shows.first
  no_refusal (DelMissing name) shows = none_without _ shows
  no_refusal (CellFull count) shows = let room = taken.room.room in let is = shows.count_is in let over = shows.over in omega (arith, room, is, over)
  no_refusal (HeadTooLong bytes) shows = contradiction _ taken.short shows.long
  no_refusal FindingsFull shows = let within = taken.within in let over = shows.over in omega (arith, within, over)

  refusal_none : state_refusal c edits ≡ None
  refusal_none = by (state_refusal c edits) (refusal_told c edits)
    where
      by : (o : Option StateRefusal) → RefusalTold c edits o → o ≡ None
      by None told = refl
      by (Some why) told = absurd (no_refusal why told)

-- ---- the answer
module _ (h : History) (desk : ℕ) (edits : List Edit) (guards : List RecName) where
  abbrev base : ℕ
  base = h.bases desk

  abbrev by_fault : Option FormFault → Reply
  by_fault o = answer h (option_map_or faulty o (commit base edits guards))

  abbrev by_refusal : Option StateRefusal → Reply
  by_refusal o = option_map_or Refused o (Accepted (length h.commits + 1) (finding_total (apply_edits edits h.cell)))

  abbrev by_newer : Option Reply → Reply
  by_newer o = option_map_or (λ reply. reply) o (by_refusal (state_refusal h.cell edits))

  formed_answer : IsFormed h.cell.head.nall edits guards → (request_step h (desk, offer edits guards)).0 ≡ by_newer (newer_answer h.commits base edits guards)
  formed_answer formed = ap by_fault (form_is h.cell.head.nall edits guards formed)

  alone_answer : IsFormed h.cell.head.nall edits guards → AreUncontested h.commits base edits guards
      → (request_step h (desk, offer edits guards)).0 ≡ by_refusal (state_refusal h.cell edits)
  alone_answer formed alone = formed_answer formed ∙ ap by_newer (newer_none h.commits base edits guards alone)

pub only_answer : (h : History) (desk : ℕ) (request : Request) (reply : Reply) (after : History) → TellsItsCause h desk request reply after
    → (request_step h (desk, request)).0 ≡ reply
only_answer h desk see (Viewed number findings) after cause = λ i. Viewed (sym cause.number_is i) (sym cause.findings_are i)
only_answer h desk see (Formed fault) after cause = absurd cause
only_answer h desk see (Newer number name other edit) after cause = absurd cause
only_answer h desk see (Refused why) after cause = absurd cause
only_answer h desk see (Accepted number findings) after cause = absurd cause
only_answer h desk (offer edits guards) (Viewed number findings) after cause = absurd cause
only_answer h desk (offer edits guards) (Formed fault) after cause = ap (by_fault h desk edits guards) cause.fault_is
only_answer h desk (offer edits guards) (Newer number name other edit) after cause =
    formed_answer h desk edits guards cause.formed
    ∙ ap (by_newer h desk edits guards) (newer_is h.commits (h.bases desk) edits guards number name other edit cause.shows)
only_answer h desk (offer edits guards) (Refused why) after cause =
    alone_answer h desk edits guards cause.formed cause.uncontested ∙ ap (by_refusal h desk edits guards) cause.why_is
only_answer h desk (offer edits guards) (Accepted number findings) after cause =
    alone_answer h desk edits guards cause.formed cause.uncontested
    ∙ (ap (by_refusal h desk edits guards) (refusal_none h.cell edits cause.taken)
    ∙ (λ i. Accepted (sym cause.number_is i) ((ap finding_total (sym cause.cell_is) ∙ sym cause.findings_are) i)))
