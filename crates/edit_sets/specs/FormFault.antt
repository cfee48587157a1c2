-- What is wrong with the form of edits and the names that guard them, if anything. This project's own rules.
use Rattle.std.specs.Prelude.{◌≡◌, ℕ, ◌+◌, ◌<◌, ◌≤◌, ◌==◌, Bool, false, List, length, take, filter_map, slice_get, nat_lt, Option, None, Some, option_map}
use Rattle.std.specs.Prelude.{option_and_then, All, AllPairs, if◌then◌else◌}
use Rattle.std.specs.List.{list_any, range_with_len}
use Rattle.s57_types.specs.Fitness.{unfitness}
use Rattle.s57_types.specs.declared.name.RecName.{RecName}
use Rattle.s57_types.specs.declared.fault.Unfit.{Unfit as WhyUnfit}
use Rattle.s57_types.specs.declared.fault.Unfit.TheVariants.{BadText}
use Rattle.s57_types.specs.Heads.{has_plain_texts}
use Rattle.cell_spec.specs.Edits.{name_of_edit}
use Rattle.cell_spec.specs.Names.{same_name}
use Rattle.cell_spec.specs.declared.edit.Edit.{Edit}
use Rattle.cell_spec.specs.declared.edit.Edit.TheVariants.{Add, Set, Del, Head}
use Rattle.edit_sets.specs.declared.fault.FormFault.{FormFault}
use Rattle.edit_sets.specs.declared.fault.FormFault.TheVariants.{Empty, TooMany, Twice, Unfit, TooManyGuards}
use Rattle.edit_sets.specs.declared.fault.FormRefusal.{FormRefusal}
use Rattle.edit_sets.specs.declared.fault.FormRefusal.TheVariants.{Fault, NoMemory}

-- edits, their guards, which are the names of records that the edits rest on without changing them, and the level NALL of the cell that they are
-- for
pub record GuardedEdits : Type 0 where
  pub edits : List Edit
  pub guards : List RecName
  pub nall : ℕ

-- why what an edit leaves can't be written, if it can't: a record, or texts of the head
abbrev pub unfitness_of_edit : ℕ → Edit → Option WhyUnfit
unfitness_of_edit nall (Add r) = unfitness nall r
unfitness_of_edit nall (Set r) = unfitness nall r
unfitness_of_edit nall (Del n) = None
unfitness_of_edit nall (Head e) = if has_plain_texts e then None else Some BadText

-- one of the edits is about the record of this name
abbrev pub has_edit_of : RecName → List Edit → Bool
has_edit_of name edits = list_any (λ edit. same_name (name_of_edit edit) name) edits

-- what is wrong with an edit that stands behind others at a place from 1: one of them has its name, or else what it leaves
-- can't be written
abbrev pub edit_fault : ℕ → List Edit → ℕ → Edit → Option FormFault
edit_fault nall earlier place edit =
    if has_edit_of (name_of_edit edit) earlier then Some (Twice place)
    else option_map (λ why. Unfit place why) (unfitness_of_edit nall edit)

-- what is wrong at a place from 0
abbrev pub fault_at : ℕ → List Edit → ℕ → Option FormFault
fault_at nall edits k = option_and_then (edit_fault nall (take k edits) (k + 1)) (slice_get edits k)

-- the fault of the first place that has one
abbrev pub first_edit_fault : ℕ → List Edit → Option FormFault
first_edit_fault nall edits = slice_get (filter_map (fault_at nall edits) (range_with_len 0 (length edits))) 0

-- how many edits and how many guards a set may have
abbrev pub edit_limit : ℕ
edit_limit = 4096

abbrev pub guard_limit : ℕ
guard_limit = 4096

-- the fault of edits and guards: there is no edit, or there are too many edits, or too many guards, or one of the edits' places has a fault. Guards
-- may repeat, may be names of the edits, and may be names of no record
unfoldable pub form_fault : ℕ → List Edit → List RecName → Option FormFault
form_fault nall edits guards =
    if length edits == 0 then Some Empty else
    (if nat_lt edit_limit (length edits) then Some (TooMany (length edits)) else
    (if nat_lt guard_limit (length guards) then Some (TooManyGuards (length guards)) else first_edit_fault nall edits))

-- edits and guards without a fault, by their parts
pub record IsFormed (nall : ℕ) (edits : List Edit) (guards : List RecName) : Type 0 where
  pub some : 0 < length edits
  pub bounded : length edits ≤ edit_limit
  pub guards_bounded : length guards ≤ guard_limit
  pub distinct : AllPairs (λ a b. same_name (name_of_edit a) (name_of_edit b) ≡ false) edits
  pub fit : All (λ edit. unfitness_of_edit nall edit ≡ None) edits

-- the set of these edits and guards at a level, which is made where they have no fault
pub record IsSetOf (nall : ℕ) (edits : List Edit) (guards : List RecName) (set : GuardedEdits) : Type 0 where
  pub edits_are : set.edits ≡ edits
  pub guards_are : set.guards ≡ guards
  pub nall_is : set.nall ≡ nall
  pub no_fault : form_fault nall edits guards ≡ None

-- a refusal tells the fault, or means out of memory, which may come in place of a fault too
abbrev pub IsFormRefusal : ℕ → List Edit → List RecName → FormRefusal → Type 0
IsFormRefusal nall edits guards (Fault fault) = form_fault nall edits guards ≡ Some fault
IsFormRefusal nall edits guards NoMemory = Unit {0}
