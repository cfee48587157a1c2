-- The first commit above a base that stands against edits and guards.
use Rattle.std.proofs.Common.{◌≡◌, ℕ, zero, suc, ◌+◌, ◌-◌, ◌<◌, ◌≤◌, List, [], ◌∷◌, drop, filter_map, Option, None, Some, refl, sym, ap, ◌∙◌, subst, arith}
use Rattle.std.specs.Prelude.{slice_get}
use Rattle.std.specs.List.{cons_option, enumerate_from}
use Rattle.s57_types.specs.declared.name.RecName.{RecName}
use Rattle.cell_spec.specs.declared.edit.Edit.{Edit}
use Rattle.history_spec.specs.Steps.{AcceptedCommit, clash_with, first_of, newer_answer}
use Rattle.history_spec.specs.declared.reply.Reply.{Reply}
use Rattle.history_spec.specs.declared.reply.Reply.TheVariants.{Newer}
use Rattle.run_laws.specs.Contests.{AreUncontested, ShowsNewer}
use Rattle.run_laws.proofs.Contests.{ClashTold, IsClash, clash_told}

module _ {X R : Type 0} (f : ℕ × X → Option R) where
  -- the first numbered item from a place on that has an answer
  pub record IsFirst (start base : ℕ) (xs : List X) (r : R) : Type 0 where
    pub place : ℕ
    pub number : ℕ
    pub item : X
    pub from : base ≤ place
    pub number_is : number ≡ start + place
    pub there : slice_get xs place ≡ Some item
    pub gives : f (number, item) ≡ Some r
    pub before : (k n : ℕ) (x : X) → base ≤ k → k < place → n ≡ start + k → slice_get xs k ≡ Some x → f (n, x) ≡ None

  abbrev pub FirstIs : ℕ → ℕ → List X → Option R → Type 0
  FirstIs start base xs None = (k n : ℕ) (x : X) → base ≤ k → n ≡ start + k → slice_get xs k ≡ Some x → f (n, x) ≡ None
  FirstIs start base xs (Some r) = IsFirst start base xs r

  -- one item before the others, which has no answer or isn't looked at
  one_before : (start low base : ℕ) (x : X) (xs : List X) (o : Option R) → base ≡ low - 1 → (low ≡ 0 → f (start, x) ≡ None)
      → FirstIs (start + 1) base xs o → FirstIs start low (x ∷ xs) o
  one_before start low base x xs None is none rest = by_place
    where
      by_place : (k n : ℕ) (y : X) → low ≤ k → n ≡ start + k → slice_get (x ∷ xs) k ≡ Some y → f (n, y) ≡ None
      by_place zero n y from at there =
          let own : x ≡ y = cc in let here : n ≡ start = omega (arith, at) in
          ap (λ m. f (m, y)) here ∙ (ap (λ z. f (start, z)) (sym own) ∙ none (omega (arith, from)))
      by_place (suc k) n y from at there = rest k n y (omega (arith, from, is)) (omega (arith, at)) there
  one_before start low base x xs (Some r) is none rest = record {
    place = suc rest.place;
    number = rest.number;
    item = rest.item;
    from = (let from = rest.from in omega (arith, from, is));
    number_is = (let at = rest.number_is in omega (arith, at));
    there = rest.there;
    gives = rest.gives;
    before = by_place;
  }
    where
      by_place : (k n : ℕ) (y : X) → low ≤ k → k < suc rest.place → n ≡ start + k → slice_get (x ∷ xs) k ≡ Some y → f (n, y) ≡ None
      by_place zero n y from below at there =
          let own : x ≡ y = cc in let here : n ≡ start = omega (arith, at) in
          ap (λ m. f (m, y)) here ∙ (ap (λ z. f (start, z)) (sym own) ∙ none (omega (arith, from)))
      by_place (suc k) n y from below at there = rest.before k n y (omega (arith, from, is)) (omega (arith, below)) (omega (arith, at)) there

  with_first : (start : ℕ) (x : X) (xs : List X) (o : Option R) (later : List R) → f (start, x) ≡ o → FirstIs (start + 1) 0 xs (first_of later)
      → FirstIs start 0 (x ∷ xs) (first_of (cons_option o later))
  with_first start x xs None later is rest = one_before start 0 0 x xs (first_of later) (omega arith) (λ e. is) rest
  with_first start x xs (Some r) later is rest = record {
    place = 0;
    number = start;
    item = x;
    from = omega arith;
    number_is = omega arith;
    there = refl;
    gives = is;
    before = λ k n y from below at there. absurd (omega (arith, below));
  }

  pub first_is : (start base : ℕ) (xs : List X) → FirstIs start base xs (first_of (filter_map f (drop base (enumerate_from start xs))))
  first_is start zero [] = λ k n x from at there. absurd (cc there)
  first_is start (suc base) [] = λ k n x from at there. absurd (cc there)
  first_is start zero (x ∷ xs) = with_first start x xs (f (start, x)) (filter_map f (enumerate_from (start + 1) xs)) refl (first_is (start + 1) 0 xs)
  first_is start (suc base) (x ∷ xs) = one_before start (suc base) base x xs (first_of (filter_map f (drop base (enumerate_from (start + 1) xs))))
      (omega arith) (λ e. absurd (omega (arith, e))) (first_is (start + 1) base xs)

module _ (commits : List AcceptedCommit) (base : ℕ) (edits : List Edit) (guards : List RecName) where
  pub record IsShown (reply : Reply) : Type 0 where
    pub number : ℕ
    pub name : RecName
    pub desk : ℕ
    pub edit : Edit
    pub is : reply ≡ Newer number name desk edit
    pub shows : ShowsNewer commits base edits guards number name desk edit

  abbrev pub NewerTold : Option Reply → Type 0
  NewerTold None = AreUncontested commits base edits guards
  NewerTold (Some reply) = IsShown reply

  told_by : (o : Option Reply) → FirstIs (clash_with edits guards) 1 base commits o → NewerTold o
  told_by None none = λ number accepted a.
      let above = a.above in
      subst (ClashTold edits guards accepted number)
      (none (number - 1) number accepted (omega (arith, above)) (omega (arith, above)) a.there) (clash_told edits guards accepted number)
  told_by (Some reply) q =
      let c : IsClash edits guards q.item q.number reply = subst (ClashTold edits guards q.item q.number) q.gives (clash_told edits guards q.item q.number) in
      let at = q.number_is in
      let from = q.from in
      let place : q.number - 1 ≡ q.place = omega (arith, at) in record {
        number = q.number;
        name = c.name;
        desk = q.item.desk;
        edit = c.edit;
        is = c.is;
        shows = record {
          accepted = q.item;
          newer = record { above = omega (arith, at, from); there = ap (slice_get commits) place ∙ q.there };
          desk_is = refl;
          contested = c.contested;
          edit_is = c.edit_is;
          one_of_them = c.one_of_them;
          of_name = c.of_name;
          least = c.least;
          first = λ earlier before a below.
              let above = a.above in
              subst (ClashTold edits guards before earlier)
              (q.before (earlier - 1) earlier before (omega (arith, above)) (omega (arith, above, below, at)) (omega (arith, above)) a.there)
              (clash_told edits guards before earlier);
        };
      }

  pub newer_told : NewerTold (newer_answer commits base edits guards)
  newer_told = told_by (newer_answer commits base edits guards) (first_is (clash_with edits guards) 1 base commits)
