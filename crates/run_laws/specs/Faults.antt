-- What the fault of a draft's form tells of its edits and guards. This project's own rules.
use Rattle.std.specs.Prelude.{◌≡◌, ℕ, ◌-◌, ◌<◌, ◌≤◌, List, length, map, take, slice_get, Contains, None, Some}
use Rattle.s57_types.specs.declared.fault.Unfit.{Unfit as WhyUnfit}
use Rattle.s57_types.specs.declared.name.RecName.{RecName}
use Rattle.cell_spec.specs.Edits.{name_of_edit}
use Rattle.cell_spec.specs.declared.edit.Edit.{Edit}
use Rattle.edit_sets.specs.FormFault.{edit_limit, guard_limit, unfitness_of_edit}
use Rattle.edit_sets.specs.declared.fault.FormFault.{FormFault}
use Rattle.edit_sets.specs.declared.fault.FormFault.TheVariants.{Empty, TooMany, Twice, Unfit, TooManyGuards}

-- there are edits, and not too many
pub record AreSome (edits : List Edit) : Type 0 where
  pub some : 0 < length edits
  pub bounded : length edits ≤ edit_limit

pub record AreTooManyGuards (edits : List Edit) (guards : List RecName) (count : ℕ) : Type 0 where
  pub some : AreSome edits
  pub count_is : count ≡ length guards
  pub over : guard_limit < count

-- an edit behind others has a name that none of them has, and what it leaves can be written
pub record IsGood (nall : ℕ) (earlier : List Edit) (edit : Edit) : Type 0 where
  pub new : ¬ Contains (map name_of_edit earlier) (name_of_edit edit)
  pub fit : unfitness_of_edit nall edit ≡ None

-- the edit at a place, counted from 1, of edits and guards that are not too many is reached: each edit before it is good
pub record IsReached (nall : ℕ) (edits : List Edit) (guards : List RecName) (place : ℕ) (edit : Edit) : Type 0 where
  pub some : AreSome edits
  pub guards_bounded : length guards ≤ guard_limit
  pub from_one : 1 ≤ place
  pub there : slice_get edits (place - 1) ≡ Some edit
  pub before : (earlier : ℕ) (other : Edit) → 1 ≤ earlier → earlier < place → slice_get edits (earlier - 1) ≡ Some other
      → IsGood nall (take (earlier - 1) edits) other

-- the first edit that isn't good has the name of one before it
pub record IsTwice (nall : ℕ) (edits : List Edit) (guards : List RecName) (place : ℕ) : Type 0 where
  pub edit : Edit
  pub reached : IsReached nall edits guards place edit
  pub again : Contains (map name_of_edit (take (place - 1) edits)) (name_of_edit edit)

-- the first edit that isn't good has a new name, and what it leaves can't be written
pub record IsUnfit (nall : ℕ) (edits : List Edit) (guards : List RecName) (place : ℕ) (why : WhyUnfit) : Type 0 where
  pub edit : Edit
  pub reached : IsReached nall edits guards place edit
  pub new : ¬ Contains (map name_of_edit (take (place - 1) edits)) (name_of_edit edit)
  pub unfit : unfitness_of_edit nall edit ≡ Some why

abbrev pub ShowsFault : ℕ → List Edit → List RecName → FormFault → Type 0
ShowsFault nall edits guards Empty = length edits ≡ 0
ShowsFault nall edits guards (TooMany count) = (count ≡ length edits) × (edit_limit < count)
ShowsFault nall edits guards (TooManyGuards count) = AreTooManyGuards edits guards count
ShowsFault nall edits guards (Twice place) = IsTwice nall edits guards place
ShowsFault nall edits guards (Unfit place why) = IsUnfit nall edits guards place why
