-- The names on which an accepted commit stands against edits and guards, and the least of them.
use Rattle.std.proofs.Common.{◌≡◌, ◌⊎◌, inl, inr, ℕ, zero, suc, Bool, true, List, [], ◌∷◌, ◌++◌, map, Option, None, Some, refl, sym, ap, ◌∙◌, subst, arith}
use Rattle.std.specs.Prelude.{Contains}
use Rattle.std.specs.List.{list_any}
use Rattle.std.specs.List.Sorted.{IsStrictlySortedBy}
use Rattle.std.specs.Cmp.{eq_by_cmp_equiv}
use Rattle.std.specs.declared.cmp.Ordering.TheVariants.{Less}
use Rattle.std.specs.Option.{option_map, option_and_then}
use Rattle.std.proofs.lemmas.Bool.{both_ways as contradiction}
use Rattle.s57_types.specs.declared.name.RecName.{RecName}
use Rattle.cell_spec.specs.Ascending.{ascending}
use Rattle.cell_spec.specs.Edits.{name_of_edit, edit_of}
use Rattle.cell_spec.specs.Names.{name_order, same_name}
use Rattle.cell_spec.specs.declared.edit.Edit.{Edit}
use Rattle.cell_spec.proofs.Ascending.{sorted-ascending}
use Rattle.cell_spec.proofs.Orders.{exact_names, names_tie, one_when_same, total_names}
use Rattle.answer_laws.proofs.Among.{Among, among_append, among_map, any_passes, found, in_back, in_front, known_of, mapped, none_found, passing, picked}
use Rattle.finding_laws.proofs.Lists.{among_kept, from_ascending, into_ascending}
use Rattle.history_spec.specs.Steps.{AcceptedCommit, clash_with, contested_names, first_of}
use Rattle.history_spec.specs.declared.reply.Reply.{Reply}
use Rattle.history_spec.specs.declared.reply.Reply.TheVariants.{Newer}
use Rattle.run_laws.specs.Contests.{IsContested, RestOn}

-- ---- items by place, and items among those of a list
pub among_contained : {X : Type 0} (xs : List X) (x : X) → Contains xs x → Among x xs
among_contained [] x (k, within, is) = absurd (omega (arith, within))
among_contained (y ∷ ys) x (zero, within, is) = inl is
among_contained (y ∷ ys) x (suc k, within, is) = inr (among_contained ys x (k, omega (arith, within), is))

pub contained_among : {X : Type 0} (xs : List X) (x : X) → Among x xs → Contains xs x
contained_among [] x at = absurd at
contained_among (y ∷ ys) x (inl is) = (0, omega arith, is)
contained_among (y ∷ ys) x (inr at) = let r = contained_among ys x at in (suc r.0, (let within = r.1 in omega (arith, within)), r.2)

-- ---- the contested names
pub itself : (n : RecName) → same_name n n ≡ true
itself n = sym (names_tie n n) ∙ (eq_by_cmp_equiv total_names).refl n

abbrev is_edited : List Edit → RecName → Bool
is_edited others n = list_any (λ other. same_name n (name_of_edit other)) others

edited_when : (others : List Edit) (n : RecName) → is_edited others n ≡ true → Among n (map name_of_edit others)
edited_when others n e =
    let hit = passing (λ other. same_name n (name_of_edit other)) others e in
    subst (λ m. Among m (map name_of_edit others)) (sym (one_when_same n (name_of_edit hit.item) hit.passes))
    (among_map name_of_edit hit.item others hit.among)

when_edited : (others : List Edit) (n : RecName) → Among n (map name_of_edit others) → is_edited others n ≡ true
when_edited others n at =
    let from = mapped name_of_edit n others at in
    any_passes (λ other. same_name n (name_of_edit other)) from.item others from.among (ap (same_name n) from.gives ∙ itself n)

module _ (edits : List Edit) (guards : List RecName) (accepted : AcceptedCommit) where
  abbrev Names : List RecName
  Names = contested_names edits guards accepted.edits

  abbrev Sorted : List RecName
  Sorted = ascending name_order Names

  resting : (n : RecName) → RestOn edits guards n → Among n (map name_of_edit edits ++ guards)
  resting n (inl at) = in_front n (map name_of_edit edits) guards (among_contained (map name_of_edit edits) n at)
  resting n (inr at) = in_back n (map name_of_edit edits) guards (among_contained guards n at)

  rests : (n : RecName) → Among n (map name_of_edit edits) ⊎ Among n guards → RestOn edits guards n
  rests n (inl at) = inl (contained_among (map name_of_edit edits) n at)
  rests n (inr at) = inr (contained_among guards n at)

  into_contested : (n : RecName) → IsContested edits guards accepted n → Among n Names
  into_contested n c = among_kept (is_edited accepted.edits) n (map name_of_edit edits ++ guards) (resting n c.rest)
      (when_edited accepted.edits n (among_contained (map name_of_edit accepted.edits) n c.edited))

  from_contested : (n : RecName) → Among n Names → IsContested edits guards accepted n
  from_contested n at =
      let kept = picked (is_edited accepted.edits) n (map name_of_edit edits ++ guards) at in record {
        rest = rests n (among_append n (map name_of_edit edits) guards kept.among);
        edited = contained_among (map name_of_edit accepted.edits) n (edited_when accepted.edits n kept.passes);
      }

  -- ---- the least of them
  none_first : (names : List RecName) (n : RecName) → first_of names ≡ None → Among n names → ⊥
  none_first [] n e at = at
  none_first (m ∷ names) n e at = cc

  first_among : (names : List RecName) (n : RecName) → first_of names ≡ Some n → Among n names
  first_among [] n e = cc
  first_among (m ∷ names) n e = inl (cc)

  first_least : (names : List RecName) (n m : RecName) → IsStrictlySortedBy name_order names → first_of names ≡ Some n → Among m names
      → (n ≡ m) ⊎ (name_order n m ≡ Less)
  unfolding IsStrictlySortedBy
  first_least [] n m sorted e at = absurd at
  first_least (l ∷ names) n m sorted e (inl is) = let first : l ≡ n = cc in inl (sym first ∙ is)
  first_least (l ∷ names) n m sorted e (inr at) = let first : l ≡ n = cc in
      inr (subst (λ k. name_order k m ≡ Less) first (known_of (λ z. name_order l z ≡ Less) m names sorted.0 at))

  -- ---- the answer where the commit contests a name
  pub record IsClash (number : ℕ) (reply : Reply) : Type 0 where
    pub name : RecName
    pub edit : Edit
    pub is : reply ≡ Newer number name accepted.desk edit
    pub contested : IsContested edits guards accepted name
    pub edit_is : edit_of name accepted.edits ≡ Some edit
    pub one_of_them : Contains accepted.edits edit
    pub of_name : name_of_edit edit ≡ name
    pub least : (other : RecName) → IsContested edits guards accepted other → (name ≡ other) ⊎ (name_order name other ≡ Less)

  abbrev pub ClashTold : ℕ → Option Reply → Type 0
  ClashTold number None = (name : RecName) → ¬ IsContested edits guards accepted name
  ClashTold number (Some reply) = IsClash number reply

  pub clash_told : (number : ℕ) → ClashTold number (clash_with edits guards (number, accepted))
  clash_told number = by_name (first_of Sorted) refl
    where
      by_edit : (n : RecName) → first_of Sorted ≡ Some n → (o : Option Edit) → edit_of n accepted.edits ≡ o
          → ClashTold number (option_map (Newer number n accepted.desk) o)
      by_edit n first None is =
          let contested = from_contested n (from_ascending name_order total_names exact_names n Names
          (first_among Sorted n first)) in
          let from = mapped name_of_edit n accepted.edits (among_contained (map name_of_edit accepted.edits) n contested.edited) in
          absurd (contradiction (list_any (λ edit. same_name (name_of_edit edit) n) accepted.edits)
          (none_found (λ edit. same_name (name_of_edit edit) n) accepted.edits is)
          (any_passes (λ edit. same_name (name_of_edit edit) n) from.item accepted.edits from.among (ap (λ m. same_name m n) from.gives ∙ itself n)))
      by_edit n first (Some edit) is =
          let hit = found (λ edit. same_name (name_of_edit edit) n) accepted.edits edit is in record {
            name = n;
            edit = edit;
            is = refl;
            contested = from_contested n (from_ascending name_order total_names exact_names n Names
                (first_among Sorted n first));
            edit_is = is;
            one_of_them = contained_among accepted.edits edit hit.among;
            of_name = one_when_same (name_of_edit edit) n hit.passes;
            least = λ other c. first_least Sorted n other (sorted-ascending name_order total_names Names) first
                (into_ascending name_order total_names exact_names other Names (into_contested other c));
          }

      by_name : (o : Option RecName) → first_of Sorted ≡ o
          → ClashTold number (option_and_then (λ n. option_map (Newer number n accepted.desk) (edit_of n accepted.edits)) o)
      by_name None is = λ name c.
          none_first Sorted name is (into_ascending name_order total_names exact_names name Names (into_contested name c))
      by_name (Some n) is = by_edit n is (edit_of n accepted.edits) refl
