-- Places that are paired are those that a split makes of the places that a join keeps.
use Rattle.std.proofs.Common.{◌≡◌, ℕ, ◌+◌, Bool, true, false, ◌&&◌, List, [], ◌∷◌, ◌++◌, Option, None, Some, cond, get_or, length, take, ◌<◌, map, refl, sym}
use Rattle.std.proofs.Common.{ap, ◌∙◌}
use Rattle.std.specs.Prelude.{◌==◌, ◌-◌, not}
use Rattle.std.specs.List.{AllByRecursion, list_any}
use Rattle.std.specs.Option.{option_map_or}
use Rattle.std.proofs.lemmas.Bool.{and_parts, eqb-true, or_parts}
use Rattle.std.proofs.lemmas.List.{take_more}
use Rattle.std.proofs.lemmas.List.Elements.{filter-append}
use Rattle.s57_types.specs.declared.name.RecName.{RecName}
use Rattle.s57_types.specs.declared.record.Spot.{Spot}
use Rattle.cell_spec.specs.Names.{same_name}
use Rattle.cell_spec.proofs.Orders.{one_when_same, same_from_either}
use Rattle.topo_ops.specs.Join.{are_paired, have_same_codes, joined_places, name_in_order, names_either, unpaired_from}
use Rattle.topo_ops.specs.Split.{on_edge, split_places}
use Rattle.topo_ops.specs.declared.operation.EdgeJoin.{EdgeJoin}

-- ---- places none of which names an edge
pub none_names : (n : RecName) (ps : List Spot) → list_any (same_name n) (map (λ (s : Spot). s.to) ps) ≡ false
    → AllByRecursion (λ (s : Spot). same_name s.to n ≡ false) ps
none_names n [] none = tt
none_names n (s ∷ ps) none =
    let parts = or_parts (same_name n s.to) (list_any (same_name n) (map (λ (t : Spot). t.to) ps)) none in
    (same_from_either s.to n ∙ parts.0, none_names n ps parts.1)

-- a split leaves places that don't name the edge
pub split_nothing : (e f : RecName) (ps : List Spot) → AllByRecursion (λ (s : Spot). same_name s.to e ≡ false) ps → split_places e f ps ≡ ps
split_nothing e f [] none = refl
split_nothing e f (s ∷ ps) none =
    (λ i. cond (none.0 i) (cond (s.ornt == 2) (on_edge f s ∷ s ∷ []) (s ∷ on_edge f s ∷ [])) (s ∷ []) ++ split_nothing e f ps none.1 i)

-- a join leaves no place that names the second edge
joined_by : (f : RecName) (s : Spot) (ps : List Spot) (named : Bool) → same_name s.to f ≡ named
    → AllByRecursion (λ (t : Spot). same_name t.to f ≡ false) (joined_places f ps)
    → AllByRecursion (λ (t : Spot). same_name t.to f ≡ false) (cond (not named) (s ∷ joined_places f ps) (joined_places f ps))
joined_by f s ps true is rest = rest
joined_by f s ps false is rest = (is, rest)

pub joined_names_none : (f : RecName) (ps : List Spot) → AllByRecursion (λ (s : Spot). same_name s.to f ≡ false) (joined_places f ps)
joined_names_none f [] = tt
joined_names_none f (s ∷ ps) = joined_by f s ps (same_name s.to f) refl (joined_names_none f ps)

-- and leaves the others
pub joined_nothing : (f : RecName) (ps : List Spot) → AllByRecursion (λ (s : Spot). same_name s.to f ≡ false) ps → joined_places f ps ≡ ps
joined_nothing f [] none = refl
joined_nothing f (s ∷ ps) none = (λ i. cond (not (none.0 i)) (s ∷ joined_nothing f ps none.1 i) (joined_nothing f ps none.1 i))

-- one place more
pub joined_more : (f : RecName) (ps : List Spot) (i : ℕ) (d : Spot) → i < length ps
    → joined_places f (take (i + 1) ps) ≡ joined_places f (take i ps) ++ joined_places f (get_or ps i d ∷ [])
joined_more f ps i d within =
    ap (joined_places f) (take_more ps i d within) ∙ filter-append (λ (s : Spot). not (same_name s.to f)) (take i ps) (get_or ps i d ∷ [])

-- ---- paired places
module _ (j : EdgeJoin) (apart : same_name j.edge j.other ≡ false) where
  abbrev e : RecName
  e = j.edge

  abbrev f : RecName
  f = j.other

  -- what is split of what is joined
  abbrev again : List Spot → List Spot
  again ps = split_places e f (joined_places f ps)

  drops : (s : Spot) (ps : List Spot) → same_name s.to f ≡ true → joined_places f (s ∷ ps) ≡ joined_places f ps
  drops s ps is = ap (λ b. cond (not b) (s ∷ joined_places f ps) (joined_places f ps)) is

  keeps : (s : Spot) (ps : List Spot) → same_name s.to f ≡ false → joined_places f (s ∷ ps) ≡ s ∷ joined_places f ps
  keeps s ps is = ap (λ b. cond (not b) (s ∷ joined_places f ps) (joined_places f ps)) is

  other_for : (s : Spot) → same_name s.to e ≡ true → same_name s.to f ≡ false
  other_for s is = ap (λ n. same_name n f) (one_when_same s.to e is) ∙ apart

  -- places with the same codes that name two edges
  one_spot : (s t : Spot) → s.to ≡ t.to → have_same_codes s t ≡ true → s ≡ t
  one_spot s t to codes =
      let parts = and_parts ((s.ornt == t.ornt) && (s.usag == t.usag)) (s.mask == t.mask) codes in
      let first = and_parts (s.ornt == t.ornt) (s.usag == t.usag) parts.0 in
      λ i. record { to = to i; ornt = eqb-true s.ornt t.ornt first.0 i; usag = eqb-true s.usag t.usag first.1 i; mask = eqb-true s.mask t.mask parts.1 i }

  same_turn : (s t : Spot) → have_same_codes s t ≡ true → s.ornt ≡ t.ornt
  same_turn s t codes =
      let parts = and_parts ((s.ornt == t.ornt) && (s.usag == t.usag)) (s.mask == t.mask) codes in
      eqb-true s.ornt t.ornt (and_parts (s.ornt == t.ornt) (s.usag == t.usag) parts.0).0

  pair_by : (s t : Spot) (ps : List Spot) (back : Bool) → (s.ornt == 2) ≡ back
      → cond back (same_name s.to f && same_name t.to e) (same_name s.to e && same_name t.to f) ≡ true → have_same_codes s t ≡ true → ps ≡ again ps
      → s ∷ t ∷ ps ≡ again (s ∷ t ∷ ps)
  pair_by s t ps true turn order codes rest =
      let named = and_parts (same_name s.to f) (same_name t.to e) order in
      let turned : (t.ornt == 2) ≡ true = ap (λ k. k == 2) (sym (same_turn s t codes)) ∙ turn in
      let first : on_edge f t ≡ s = sym (one_spot s (on_edge f t) (one_when_same s.to f named.0) codes) in
      let joined : joined_places f (s ∷ t ∷ ps) ≡ t ∷ joined_places f ps = drops s (t ∷ ps) named.0 ∙ keeps t ps (other_for t named.1) in
      sym (ap (split_places e f) joined
      ∙ (λ i. cond (named.1 i) (cond (turned i) (on_edge f t ∷ t ∷ []) (t ∷ on_edge f t ∷ [])) (t ∷ []) ++ again ps)
      ∙ (λ i. first i ∷ t ∷ sym rest i))
  pair_by s t ps false turn order codes rest =
      let named = and_parts (same_name s.to e) (same_name t.to f) order in
      let second : on_edge f s ≡ t = one_spot (on_edge f s) t (sym (one_when_same t.to f named.1)) codes in
      let joined : joined_places f (s ∷ t ∷ ps) ≡ s ∷ joined_places f ps = keeps s (t ∷ ps) (other_for s named.0) ∙ ap (λ l. s ∷ l) (drops t ps named.1) in
      sym (ap (split_places e f) joined
      ∙ (λ i. cond (named.0 i) (cond (turn i) (on_edge f s ∷ s ∷ []) (s ∷ on_edge f s ∷ [])) (s ∷ []) ++ again ps)
      ∙ (λ i. s ∷ second i ∷ sym rest i))

  pair : (s t : Spot) (ps : List Spot) → are_paired j s t ≡ true → ps ≡ again ps → s ∷ t ∷ ps ≡ again (s ∷ t ∷ ps)
  pair s t ps paired rest =
      let parts = and_parts (name_in_order j s t) (have_same_codes s t) paired in pair_by s t ps (s.ornt == 2) refl parts.0 parts.1 rest

  alone : (t : Spot) (ps : List Spot) → names_either j t ≡ false → ps ≡ again ps → t ∷ ps ≡ again (t ∷ ps)
  alone t ps named rest =
      let parts = or_parts (same_name t.to e) (same_name t.to f) named in
      sym (ap (split_places e f) (keeps t ps parts.1)
      ∙ (λ i. cond (parts.0 i) (cond (t.ornt == 2) (on_edge f t ∷ t ∷ []) (t ∷ on_edge f t ∷ [])) (t ∷ []) ++ again ps)
      ∙ (λ i. t ∷ sym rest i))

  -- a place that waits, with those behind it
  abbrev with_waiting : Option Spot → List Spot → List Spot
  with_waiting None ps = ps
  with_waiting (Some s) ps = s ∷ ps

  step_by : (k : ℕ) (s t : Spot) (ps : List Spot) (paired : Bool) → are_paired j s t ≡ paired
      → option_map_or (λ next. unpaired_from j (k + 1) next ps) (cond paired (Some None) None) (Some (k - 1)) ≡ None
      → (unpaired_from j (k + 1) None ps ≡ None → ps ≡ again ps) → s ∷ t ∷ ps ≡ again (s ∷ t ∷ ps)
  step_by k s t ps true is none rest = pair s t ps is (rest none)
  step_by k s t ps false is none rest = cc

  next_by : (k : ℕ) (t : Spot) (ps : List Spot) (named : Bool) → names_either j t ≡ named
      → unpaired_from j (k + 1) (cond named (Some t) None) ps ≡ None
      → ((w : Option Spot) → unpaired_from j (k + 1) w ps ≡ None → with_waiting w ps ≡ again (with_waiting w ps)) → t ∷ ps ≡ again (t ∷ ps)
  next_by k t ps true is none rest = rest (Some t) none
  next_by k t ps false is none rest = alone t ps is (rest None none)

  walk : (k : ℕ) (w : Option Spot) (ps : List Spot) → unpaired_from j k w ps ≡ None → with_waiting w ps ≡ again (with_waiting w ps)
  walk k None [] none = refl
  walk k (Some s) [] none = cc
  walk k None (t ∷ ps) none = next_by k t ps (names_either j t) refl none (λ w. walk (k + 1) w ps)
  walk k (Some s) (t ∷ ps) none = step_by k s t ps (are_paired j s t) refl none (walk (k + 1) None ps)

  -- places that are all paired are what a split makes of what a join keeps
  pub paired_again : (ps : List Spot) → unpaired_from j 1 None ps ≡ None → ps ≡ split_places e f (joined_places f ps)
  paired_again ps none = walk 1 None ps none
