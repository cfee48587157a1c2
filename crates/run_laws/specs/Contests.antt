-- Which accepted commits stand against another commit. This project's own rules.
use Rattle.std.specs.Prelude.{◌≡◌, ◌⊎◌, ℕ, ◌-◌, ◌<◌, List, map, slice_get, Contains, Some}
use Rattle.std.specs.declared.cmp.Ordering.TheVariants.{Less}
use Rattle.s57_types.specs.declared.name.RecName.{RecName}
use Rattle.cell_spec.specs.Edits.{name_of_edit, edit_of}
use Rattle.cell_spec.specs.Names.{name_order}
use Rattle.cell_spec.specs.declared.edit.Edit.{Edit}
use Rattle.history_spec.specs.Steps.{AcceptedCommit}

-- edits and guards rest on a name: one of the edits is of it, or it is guarded
abbrev pub RestOn : List Edit → List RecName → RecName → Type 0
RestOn edits guards name = Contains (map name_of_edit edits) name ⊎ Contains guards name

-- an accepted commit has an edit of a name on which edits and guards rest
pub record IsContested (edits : List Edit) (guards : List RecName) (accepted : AcceptedCommit) (name : RecName) : Type 0 where
  pub rest : RestOn edits guards name
  pub edited : Contains (map name_of_edit accepted.edits) name

-- the accepted commit of a number, counted from 1, came after a base
pub record IsAbove (commits : List AcceptedCommit) (base number : ℕ) (accepted : AcceptedCommit) : Type 0 where
  pub above : base < number
  pub there : slice_get commits (number - 1) ≡ Some accepted

-- no accepted commit above a base has an edit of a name on which edits and guards rest
abbrev pub AreUncontested : List AcceptedCommit → ℕ → List Edit → List RecName → Type 0
AreUncontested commits base edits guards = (number : ℕ) (accepted : AcceptedCommit) → IsAbove commits base number accepted
    → (name : RecName) → ¬ IsContested edits guards accepted name

-- what edits and guards on a base are shown: the first commit above the base that contests a name on which they rest, the least such name, the desk
-- of that commit, and its edit of that name
pub record ShowsNewer (commits : List AcceptedCommit) (base : ℕ) (edits : List Edit) (guards : List RecName) (number : ℕ) (name : RecName) (desk : ℕ)
    (edit : Edit) : Type 0 where
  pub accepted : AcceptedCommit
  pub newer : IsAbove commits base number accepted
  pub desk_is : desk ≡ accepted.desk
  pub contested : IsContested edits guards accepted name
  pub edit_is : edit_of name accepted.edits ≡ Some edit
  pub one_of_them : Contains accepted.edits edit
  pub of_name : name_of_edit edit ≡ name
  pub least : (other : RecName) → IsContested edits guards accepted other → (name ≡ other) ⊎ (name_order name other ≡ Less)
  pub first : (earlier : ℕ) (before : AcceptedCommit) → IsAbove commits base earlier before → earlier < number
      → (other : RecName) → ¬ IsContested edits guards before other
