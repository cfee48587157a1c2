-- The places of commits by the names that they edit. This project's own rules.
use Rattle.std.specs.Prelude.{◌≡◌, ℕ, ◌≤◌, ◌<◌, Bool, true, false, List, [], ◌∷◌, ◌++◌, Some}
use Rattle.std.specs.List.{list_any, slice_get}
use Rattle.std.specs.BTreeSet.{contains}
use Rattle.std.specs.declared.cmp.Ordering.{Ordering}
use Rattle.s57_types.specs.declared.name.RecName.{RecName}
use Rattle.cell_spec.specs.Ascending.{order_by}
use Rattle.cell_spec.specs.Edits.{name_of_edit}
use Rattle.cell_spec.specs.Names.{name_parts, same_name}
use Rattle.commit_book.specs.declared.accepted.Accepted.{Accepted as Taken}
use Rattle.commit_book.specs.declared.commit_places.CommitPlace.{CommitPlace}
use Rattle.commit_book.specs.declared.commit_places.CommitPlaces.{CommitPlaces}

-- by name, then by place
abbrev pub place_parts : CommitPlace → List ℕ
place_parts p = name_parts p.name ++ p.place ∷ []

abbrev pub place_order : CommitPlace → CommitPlace → Ordering
place_order = order_by place_parts

abbrev pub commit_place : RecName → ℕ → CommitPlace
commit_place n k = record { name = n; place = k }

-- whether a place is noted at a name
abbrev pub has_place : CommitPlaces → RecName → ℕ → Bool
has_place places n k = contains place_order places.noted (commit_place n k)

-- whether a place is noted at one of some names
abbrev pub has_any : CommitPlaces → List RecName → ℕ → Bool
has_any places names k = list_any (λ n. has_place places n k) names

-- what was noted still is
abbrev pub AreKept : CommitPlaces → CommitPlaces → Type 0
AreKept old new = (n : RecName) (k : ℕ) → has_place old n k ≡ true → has_place new n k ≡ true

-- the first place from one up to another that is noted at one of some names; the other where there is none
pub record IsFirstPlace (places : CommitPlaces) (names : List RecName) (from to first : ℕ) : Type 0 where
  pub from_is : from ≤ first
  pub to_is : first ≤ to
  pub none_before : (k : ℕ) → from ≤ k → k < first → has_any places names k ≡ false
  pub noted : first < to → has_any places names first ≡ true

-- a commit's place is noted at each name that it edits
abbrev pub IsNoted : CommitPlaces → ℕ → Taken → Type 0
IsNoted places k taken = (n : RecName) → list_any (λ edit. same_name n (name_of_edit edit)) taken.set.edits ≡ true → has_place places n k ≡ true

-- the place from 0 of each of some commits is
abbrev pub AreNoted : CommitPlaces → List Taken → Type 0
AreNoted places accepted = (k : ℕ) (taken : Taken) → slice_get accepted k ≡ Some taken → IsNoted places k taken
