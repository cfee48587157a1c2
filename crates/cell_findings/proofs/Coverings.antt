-- Names put at their points give the coverings of a cell.
use Rattle.std.proofs.Common.{◌≡◌, ℕ, ◌⊎◌, inl, inr, ◌&&◌, ◌||◌, ◌++◌, Bool, true, false, List, [], ◌∷◌, Option, Some, None, cond, is_some, map, refl, sym}
use Rattle.std.proofs.Common.{ap, ◌∙◌, arith, Less}
use Rattle.std.specs.Prelude.{◌==◌, flat_map, option_and_then, option_to_list}
use Rattle.std.specs.List.{AllByRecursion}
use Rattle.std.specs.List.Sorted.{IsStrictlySortedBy}
use Rattle.std.specs.Option.{option_map_or}
use Rattle.std.specs.Ordering.{is_eq}
use Rattle.std.proofs.lemmas.Bool.Decides.{nat_tests}
use Rattle.geometry_spec.specs.Points.{Point}
use Rattle.s57_types.specs.declared.name.RecName.{RecName}
use Rattle.s57_types.specs.declared.record.Rec.{Rec}
use Rattle.s57_types.specs.declared.cell.Cell.{Cell}
use Rattle.cell_spec.specs.Lookup.{listed_record}
use Rattle.cell_spec.specs.Names.{kind_rank, name_order, same_name}
use Rattle.cell_spec.proofs.Ascending.{holds, sorted-ascending}
use Rattle.cell_spec.proofs.Orders.{exact_names, names_tie, one_when_same, same_from_either, total_names}
use Rattle.rule_spec.specs.Findings.{record_names}
use Rattle.row_spec.specs.Rows.{IsAscending}
use Rattle.finding_laws.specs.Tables.{Covering, IsCoveringsOf, covering_in}
use Rattle.finding_laws.proofs.Listed.{named_in, no_segments}
use Rattle.finding_laws.proofs.Lists.{held_among, into_ascending}
use Rattle.tile_index.specs.declared.change.TileChange.{TileChange}
use Rattle.tile_index.specs.Changes.{ChangesSetTheirNames, after_changes, covering_after, covering_given, covering_if_any, segments_with}
use Rattle.cell_findings.specs.Judged.{names_in}
use Rattle.cell_findings.specs.Points.{changes_at, points_of, put_at}
use Rattle.cell_findings.proofs.SegmentsAt.{segments_with_points}

-- a name's points give its covering
given_by : (c : Cell) (n : RecName) (points : Option (List Point)) → points_of c n ≡ points
    → option_and_then (λ ps. covering_if_any (segments_with n ps)) points ≡ covering_in c n
given_by c n None is = ap covering_if_any (ap (λ ps. option_map_or (segments_with n) ps []) (sym is) ∙ segments_with_points c n)
given_by c n (Some ps) is = ap covering_if_any (ap (λ ps. option_map_or (segments_with n) ps []) (sym is) ∙ segments_with_points c n)

-- ---- the coverings after names are put at their points
equal_swap : (x y : ℕ) → (x == y) ≡ (y == x)
equal_swap x y = grind (arith, nat_tests)

module _ (c : Cell) (n : RecName) where
  abbrev wanted : Option Covering
  wanted = covering_in c n

  -- a name has nothing, or what it is to have
  abbrev IsOn : Option Covering → Type 0
  IsOn had = (had ≡ None) ⊎ (had ≡ wanted)

  on_wanted : (had : Option Covering) → IsOn had → wanted ≡ None → had ≡ wanted
  on_wanted had (inl is) none = is ∙ sym none
  on_wanted had (inr is) none = is

  put_by : (m : RecName) (same : Bool) (given had : Option Covering) → same_name m n ≡ same → given ≡ covering_in c m → IsOn had → IsOn (cond same given had)
  put_by m true given had is right on = inr (right ∙ ap (covering_in c) (one_when_same m n is))
  put_by m false given had is right on = on

  put_wanted : (m : RecName) (same more : Bool) (given had : Option Covering) → same_name m n ≡ same → given ≡ covering_in c m
      → ((same || more) ≡ false → had ≡ wanted) → more ≡ false → cond same given had ≡ wanted
  put_wanted m true more given had is right h e = right ∙ ap (covering_in c) (one_when_same m n is)
  put_wanted m false more given had is right h e = h e

  here : (m : RecName) → is_eq (name_order n m) ≡ same_name m n
  here m = names_tie n m ∙ same_from_either m n ∙ (λ i. equal_swap (kind_rank n.kind) (kind_rank m.kind) i && equal_swap n.id m.id i)

  abbrev after : Option Covering → List RecName → Option Covering
  after had names = covering_after had (flat_map (changes_at c) names) n

  abbrev IsPut : List RecName → Type 0
  IsPut names = (had : Option Covering) → IsOn had → (holds name_order n names ≡ false → had ≡ wanted) → after had names ≡ wanted

  kept_by : (m : RecName) (names : List RecName) (had : Option Covering) (same : Bool) → same_name m n ≡ same → points_of c m ≡ None → IsOn had
      → ((same_name m n || holds name_order n names) ≡ false → had ≡ wanted) → holds name_order n names ≡ false → had ≡ wanted
  kept_by m names had true it is on h e = on_wanted had on (ap (covering_in c) (sym (one_when_same m n it)) ∙ sym (given_by c m None is))
  kept_by m names had false it is on h e = h (ap (λ b. b || holds name_order n names) it ∙ e)

  step : (m : RecName) (names : List RecName) → IsPut names → (had : Option Covering) (points : Option (List Point)) → points_of c m ≡ points → IsOn had
      → ((same_name m n || holds name_order n names) ≡ false → had ≡ wanted)
      → covering_after had (map (put_at m) (option_to_list points) ++ flat_map (changes_at c) names) n ≡ wanted
  step m names later had None is on h = later had on (kept_by m names had (same_name m n) refl is on h)
  step m names later had (Some points) is on h =
      let given = covering_given (put_at m points) in
      let right : given ≡ covering_in c m = given_by c m (Some points) is in
      later (cond (same_name m n) given had) (put_by m (same_name m n) given had refl right on)
      (put_wanted m (same_name m n) (holds name_order n names) given had refl right h)

  all_put : (names : List RecName) → IsPut names
  all_put [] had on h = h refl
  all_put (m ∷ names) had on h =
      step m names (all_put names) had (points_of c m) refl on (λ e. h (ap (λ b. b || holds name_order n names) (here m) ∙ e))

  unlisted : (o : Option Rec) → listed_record c n ≡ o → holds name_order n (names_in c) ≡ false → None ≡ wanted
  unlisted None is e = ap covering_if_any (sym (no_segments c n is))
  unlisted (Some r) is e =
      let at : holds name_order n (names_in c) ≡ true =
      held_among name_order total_names n (names_in c) (into_ascending name_order total_names exact_names n (record_names c) (named_in c n (ap is_some is))) in
      cc

  pub names_put : covering_after None (flat_map (changes_at c) (names_in c)) n ≡ wanted
  names_put = all_put (names_in c) None (inl refl) (unlisted (listed_record c n) refl)

-- ---- the names of the changes ascend
abbrev name_set : TileChange → RecName
name_set change = change.name

each_changed : (c : Cell) (P : RecName → Type 0) (names : List RecName) → AllByRecursion P names
    → AllByRecursion P (map name_set (flat_map (changes_at c) names))
each_changed c P [] all = tt
each_changed c P (n ∷ names) all =
    elim (points_of c n) as (λ points. AllByRecursion P (map name_set (map (put_at n) (option_to_list points) ++ flat_map (changes_at c) names))) [
      | None ↦ each_changed c P names all.1
      | Some points ↦ (all.0, each_changed c P names all.1)
    ]

ascend_changed : (c : Cell) (names : List RecName) → IsStrictlySortedBy name_order names
    → IsStrictlySortedBy name_order (map name_set (flat_map (changes_at c) names))
unfolding IsStrictlySortedBy
ascend_changed c [] sorted = tt
ascend_changed c (n ∷ names) sorted =
    elim (points_of c n) as (λ points. IsStrictlySortedBy name_order
    (map name_set (map (put_at n) (option_to_list points) ++ flat_map (changes_at c) names))) [
      | None ↦ ascend_changed c names sorted.1
      | Some points ↦ (each_changed c (λ m. name_order n m ≡ Less) names sorted.0, ascend_changed c names sorted.1)
    ]

pub changes_ascend : (c : Cell) → IsStrictlySortedBy name_order (map (λ (change : TileChange). change.name) (flat_map (changes_at c) (names_in c)))
changes_ascend c = ascend_changed c (names_in c) (sorted-ascending name_order total_names (record_names c))

abbrev no_rows : List (RecName × Covering)
no_rows = []

nothing_ascends : IsAscending name_order no_rows
unfolding IsStrictlySortedBy
nothing_ascends = tt

-- all names put at their points are the coverings of the cell
pub coverings_put : ChangesSetTheirNames → (c : Cell) → IsCoveringsOf c (after_changes [] (flat_map (changes_at c) (names_in c)))
coverings_put law c =
    record {
      ascending = law.ascending [] (flat_map (changes_at c) (names_in c)) nothing_ascends;
      exact = λ n. law.coverings [] (flat_map (changes_at c) (names_in c)) n nothing_ascends ∙ names_put c n;
    }
