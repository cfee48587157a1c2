-- The places of accepted commits stay noted.
use Rattle.std.proofs.Common.{◌≡◌, ◌⊎◌, inl, inr, ℕ, zero, suc, ◌||◌, Bool, true, false, List, [], ◌∷◌, ◌++◌, Some, length, map}
use Rattle.std.proofs.Common.{refl, sym, ap, subst, ◌∙◌, arith}
use Rattle.std.specs.List.{list_any, slice_get}
use Rattle.std.proofs.lemmas.List.Folds.{list_any-append}
use Rattle.std.proofs.lemmas.Option.{none-some, same_Some}
use Rattle.s57_types.specs.declared.name.RecName.{RecName}
use Rattle.cell_spec.specs.Ascending.{ascending}
use Rattle.cell_spec.specs.Edits.{name_of_edit}
use Rattle.cell_spec.specs.Names.{name_order, same_name}
use Rattle.cell_spec.proofs.Ascending.{any-ascending}
use Rattle.cell_spec.proofs.Orders.{exact_names, one_when_same}
use Rattle.commit_book.specs.declared.accepted.Accepted.{Accepted as Taken}
use Rattle.commit_book.specs.declared.commit_places.CommitPlaces.{CommitPlaces}
use Rattle.commit_book.specs.CommitPlaces.{AreKept, AreNoted, IsNoted, has_place}
use Rattle.commit_book.proofs.Merging.{any_named}

pub still_noted : (old new : CommitPlaces) (accepted : List Taken) → AreKept old new → AreNoted old accepted → AreNoted new accepted
still_noted old new accepted kept noted k taken is n edited = kept n k (noted k taken is n edited)

-- an item of a list with one more is of the list or the last
earlier_or_last : (xs : List Taken) (x : Taken) (k : ℕ) (y : Taken) → slice_get (xs ++ x ∷ []) k ≡ Some y
    → (slice_get xs k ≡ Some y) ⊎ ((k ≡ length xs) × (x ≡ y))
earlier_or_last [] x zero y is = inr (refl, same_Some x y is)
earlier_or_last [] x (suc k) y is = absurd (none-some y is)
earlier_or_last (z ∷ xs) x zero y is = inl is
earlier_or_last (z ∷ xs) x (suc k) y is =
    elim (earlier_or_last xs x k y is) [
      | inl earlier ↦ inl earlier
      | inr last ↦ inr (let at = last.0 in omega (arith, at), last.1)
    ]

-- one name more has the place
pub noted_name_more : (old new : CommitPlaces) (k : ℕ) (names : List RecName) (name : RecName) → AreKept old new
    → ((n : RecName) → list_any (λ other. same_name n other) names ≡ true → has_place old n k ≡ true) → has_place new name k ≡ true
    → (n : RecName) → list_any (λ other. same_name n other) (names ++ name ∷ []) ≡ true → has_place new n k ≡ true
noted_name_more old new k names name kept noted here n among =
    by (list_any (λ other. same_name n other) names) (same_name n name) refl refl
    (sym (list_any-append (λ other. same_name n other) names (name ∷ [])) ∙ among)
  where
    by : (earlier last : Bool) → list_any (λ other. same_name n other) names ≡ earlier → same_name n name ≡ last
        → (earlier || (last || false)) ≡ true → has_place new n k ≡ true
    by true last is last_is among = kept n k (noted n is)
    by false true is last_is among = ap (λ m. has_place new m k) (one_when_same n name last_is) ∙ here
    by false false is last_is among = absurd (cc)

-- the names that were noted are those of the edits
noted_at : (places : CommitPlaces) (k : ℕ) (one : Taken) (names : List RecName) → names ≡ ascending name_order (map name_of_edit one.set.edits)
    → ((n : RecName) → list_any (λ name. same_name n name) names ≡ true → has_place places n k ≡ true) → IsNoted places k one
noted_at places k one names are noted n edited =
    noted n (ap (list_any (λ name. same_name n name)) are ∙ any-ascending name_order exact_names (λ name. same_name n name) (map name_of_edit one.set.edits)
    ∙ any_named n one.set.edits ∙ edited)

-- with one commit more, noted at the place behind the others
pub noted_more : (old new : CommitPlaces) (accepted pushed : List Taken) (one : Taken) (k : ℕ) (names : List RecName)
    → AreKept old new → AreNoted old accepted → names ≡ ascending name_order (map name_of_edit one.set.edits)
    → ((n : RecName) → list_any (λ name. same_name n name) names ≡ true → has_place new n k ≡ true)
    → k ≡ length accepted → pushed ≡ accepted ++ one ∷ [] → AreNoted new pushed
noted_more old new accepted pushed one k names kept noted are here at more = subst (AreNoted new) (sym more) (λ j taken is.
    elim (earlier_or_last accepted one j taken is) [
      | inl earlier ↦ still_noted old new accepted kept noted j taken earlier
      | inr last ↦ subst (λ (x : ℕ × Taken). IsNoted new x.0 x.1) (λ i. ((at ∙ sym last.0) i, last.1 i)) (noted_at new k one names are here)
    ])
