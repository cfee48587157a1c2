-- A list with each subject once, made by putting one after the other behind those that are there.
use Rattle.std.proofs.Common.{◌≡◌, inl, inr, ◌&&◌, ◌||◌, Bool, true, false, List, [], ◌∷◌, ◌++◌, cond, filter, refl, sym, ap, ◌∙◌, subst, append_assoc}
use Rattle.std.specs.Prelude.{not, flat_map}
use Rattle.std.specs.List.{list_any}
use Rattle.std.specs.Cmp.{Equal-is, eq_by_cmp_equiv}
use Rattle.std.proofs.lemmas.Bool.{or_left, or_right}
use Rattle.std.proofs.lemmas.List.{append-nil}
use Rattle.std.proofs.lemmas.List.Elements.{filter_agree}
use Rattle.std.proofs.lemmas.List.Folds.{list_any-append}
use Rattle.cell_spec.specs.declared.key.Subject.{Subject}
use Rattle.cell_spec.specs.Names.{same_subject, subject_order}
use Rattle.cell_spec.proofs.SubjectOrder.{exact_subjects, total_subjects}
use Rattle.rule_spec.specs.Affected.{each_once}
use Rattle.answer_laws.proofs.Among.{Among}
use Rattle.finding_laws.proofs.Lists.{among_held}
use Rattle.affected_subjects.specs.Rounds.{add_all, add_each, add_one}

-- ---- filters one after the other
both_by : {X : Type 0} (x : X) (p : X → Bool) (rest : List X) (first : Bool) → cond (first && p x) (x ∷ filter p rest) (filter p rest) ≡
    filter p (cond first (x ∷ rest) rest)
both_by x p rest true = refl
both_by x p rest false = refl

both : {X : Type 0} (p q : X → Bool) (xs : List X) → filter (λ x. q x && p x) xs ≡ filter p (filter q xs)
both p q [] = refl
both p q (x ∷ xs) = ap (λ rest. cond (q x && p x) (x ∷ rest) rest) (both p q xs) ∙ both_by x p (filter q xs) (q x)

-- a test that an item passes only where it passes another
implied_by : (p q : Bool) → (p ≡ true → q ≡ true) → (q && p) ≡ p
implied_by p true h = refl
implied_by true false h = let no = h refl in cc
implied_by false false h = refl

twice : {X : Type 0} (p q : X → Bool) → ((x : X) → p x ≡ true → q x ≡ true) → (xs : List X) → filter p (filter q xs) ≡ filter p xs
twice p q implied xs = sym (both p q xs) ∙ filter_agree (λ x. q x && p x) p (λ x. implied_by (p x) (q x) (implied x)) xs

all_kept : {X : Type 0} (p : X → Bool) → ((x : X) → p x ≡ true) → (xs : List X) → filter p xs ≡ xs
all_kept p each [] = refl
all_kept p each (x ∷ xs) = ap (λ b. cond b (x ∷ filter p xs) (filter p xs)) (each x) ∙ ap (λ rest. x ∷ rest) (all_kept p each xs)

-- ---- what is there
abbrev pub is_there : Subject → List Subject → Bool
is_there s there = list_any (same_subject s) there

flip : (s t : Subject) → same_subject s t ≡ same_subject t s
flip s t = (eq_by_cmp_equiv total_subjects).symm s t

pub itself : (s : Subject) → same_subject s s ≡ true
itself s = (eq_by_cmp_equiv total_subjects).refl s

-- what is one with a subject that is there is there
there_too : (there : List Subject) (s t : Subject) → is_there s there ≡ true → same_subject s t ≡ true → is_there t there ≡ true
there_too there s t at same = ap (λ u. is_there u there) (sym (exact_subjects s t ((Equal-is (subject_order s t)).0 same))) ∙ at

tied_or_found : (tie found : Bool) → cond tie true found ≡ (found || (tie || false))
tied_or_found true true = refl
tied_or_found true false = refl
tied_or_found false true = refl
tied_or_found false false = refl

-- with one more behind, it is there too
pub one_more_there : (s x : Subject) (there : List Subject) → cond (same_subject x s) true (is_there s there) ≡ is_there s (there ++ x ∷ [])
one_more_there s x there =
    tied_or_found (same_subject x s) (is_there s there)
    ∙ ap (λ tie. is_there s there || (tie || false)) (flip x s)
    ∙ sym (list_any-append (same_subject s) there (x ∷ []))

-- those of some that aren't there
abbrev pub new_ones : List Subject → List Subject → List Subject
new_ones there others = filter (λ t. not (is_there t there)) others

old_by : (found same : Bool) → (same ≡ true → found ≡ true) → not found ≡ true → not same ≡ true
old_by found false h e = refl
old_by true true h e = cc
old_by false true h e = let no = h refl in cc

-- one that is there leaves no more
no_more : (there : List Subject) (s : Subject) (others : List Subject) → is_there s there ≡ true
    → new_ones there (filter (λ t. not (same_subject s t)) others) ≡ new_ones there others
no_more there s others at =
    twice (λ t. not (is_there t there)) (λ t. not (same_subject s t))
    (λ t e. old_by (is_there t there) (same_subject s t) (there_too there s t at) e) others

behind_by : (found same turned : Bool) → turned ≡ same → not (found || (turned || false)) ≡ (not same && not found)
behind_by true true turned e = refl
behind_by true false turned e = refl
behind_by false true turned e = ap (λ b. not (b || false)) e
behind_by false false turned e = ap (λ b. not (b || false)) e

before_by : (found same turned : Bool) → turned ≡ same → not (turned || found) ≡ (not same && not found)
before_by found true turned e = ap (λ b. not (b || found)) e
before_by found false turned e = ap (λ b. not (b || found)) e

-- with one more behind, or before, those of it are left out first
more_behind : (there : List Subject) (s : Subject) (others : List Subject)
    → new_ones (there ++ s ∷ []) others ≡ new_ones there (filter (λ t. not (same_subject s t)) others)
more_behind there s others =
    filter_agree (λ t. not (is_there t (there ++ s ∷ []))) (λ t. not (same_subject s t) && not (is_there t there))
    (λ t. ap not (list_any-append (same_subject t) there (s ∷ [])) ∙ behind_by (is_there t there) (same_subject s t) (same_subject t s) (flip t s)) others
    ∙ both (λ t. not (is_there t there)) (λ t. not (same_subject s t)) others

more_before : (there : List Subject) (s : Subject) (others : List Subject)
    → new_ones (s ∷ there) others ≡ new_ones there (filter (λ t. not (same_subject s t)) others)
more_before there s others =
    filter_agree (λ t. not (is_there t (s ∷ there))) (λ t. not (same_subject s t) && not (is_there t there))
    (λ t. before_by (is_there t there) (same_subject s t) (same_subject t s) (flip t s)) others
    ∙ both (λ t. not (is_there t there)) (λ t. not (same_subject s t)) others

-- ---- one after the other
added_by : (there : List Subject) (s : Subject) (ss : List Subject) (at : Bool) → is_there s there ≡ at
    → ((now : List Subject) → add_all now ss ≡ now ++ new_ones now (each_once ss))
    → add_all (cond at there (there ++ s ∷ [])) ss
    ≡ there ++ cond (not at) (s ∷ new_ones there (filter (λ t. not (same_subject s t)) (each_once ss)))
    (new_ones there (filter (λ t. not (same_subject s t)) (each_once ss)))
added_by there s ss true is rest = rest there ∙ ap (λ those. there ++ those) (sym (no_more there s (each_once ss) is))
added_by there s ss false is rest =
    rest (there ++ s ∷ []) ∙ append_assoc there (s ∷ []) (new_ones (there ++ s ∷ []) (each_once ss))
    ∙ ap (λ those. there ++ s ∷ those) (more_behind there s (each_once ss))

pub added : (there ss : List Subject) → add_all there ss ≡ there ++ new_ones there (each_once ss)
added there [] = sym (append-nil there)
added there (s ∷ ss) = added_by there s ss (is_there s there) refl (λ now. added now ss)

-- all of a list, one after the other, are it with each once
pub is_once : (ss : List Subject) → add_all [] ss ≡ each_once ss
is_once ss = added [] ss ∙ all_kept (λ t. not (is_there t [])) (λ t. refl) (each_once ss)

pub add-append : (there xs ys : List Subject) → add_all there (xs ++ ys) ≡ add_all (add_all there xs) ys
add-append there [] ys = refl
add-append there (x ∷ xs) ys = add-append (add_one there x) xs ys

pub each_in_turn : {X : Type 0} (gives : X → List Subject) (there : List Subject) (items : List X)
    → add_each gives there items ≡ add_all there (flat_map gives items)
each_in_turn gives there [] = refl
each_in_turn gives there (x ∷ items) =
    each_in_turn gives (add_all there (gives x)) items ∙ sym (add-append there (gives x) (flat_map gives items))

-- ---- what is there stays, and what is added is there
kept_by : (s x : Subject) (there : List Subject) (at : Bool) → is_there s there ≡ true → is_there s (cond at there (there ++ x ∷ [])) ≡ true
kept_by s x there true is = is
kept_by s x there false is = list_any-append (same_subject s) there (x ∷ []) ∙ or_left (is_there s there) (is_there s (x ∷ [])) is

pub kept : (s : Subject) (there xs : List Subject) → is_there s there ≡ true → is_there s (add_all there xs) ≡ true
kept s there [] is = is
kept s there (x ∷ xs) is = kept s (add_one there x) xs (kept_by s x there (is_there x there) is)

put_by : (x : Subject) (there : List Subject) (at : Bool) → is_there x there ≡ at → is_there x (cond at there (there ++ x ∷ [])) ≡ true
put_by x there true is = is
put_by x there false is =
    list_any-append (same_subject x) there (x ∷ []) ∙ or_right (is_there x there) (is_there x (x ∷ [])) (or_left (same_subject x x) false (itself x))

-- what is added is there
pub put : (s : Subject) (there xs : List Subject) → Among s xs → is_there s (add_all there xs) ≡ true
put s there [] at = absurd at
put s there (x ∷ xs) (inl is) =
    kept s (add_one there x) xs (subst (λ t. is_there t (add_one there x) ≡ true) is (put_by x there (is_there x there) refl))
put s there (x ∷ xs) (inr at) = put s (add_one there x) xs at

-- what is there already adds nothing
pub nothing_new : (there xs : List Subject) → ((s : Subject) → Among s xs → is_there s there ≡ true) → add_all there xs ≡ there
nothing_new there [] known = refl
nothing_new there (x ∷ xs) known =
    ap (λ at. add_all (cond at there (there ++ x ∷ [])) xs) (known x (inl refl)) ∙ nothing_new there xs (λ s at. known s (inr at))

-- ---- lists of subjects that are looked at once
module _ (gives : Subject → List Subject) where
  abbrev AllThere : List Subject → List Subject → Type 0
  AllThere seen there = (s : Subject) → Among s seen → (t : Subject) → Among t (gives s) → is_there t there ≡ true

  more_there : (s : Subject) (seen there : List Subject) → AllThere seen there → AllThere (s ∷ seen) (add_all there (gives s))
  more_there s seen there known t (inl is) u at = put u there (gives s) (subst (λ r. Among u (gives r)) (sym is) at)
  more_there s seen there known t (inr among) u at = kept u there (gives s) (known t among u at)

  again_by : (s : Subject) (ss seen there : List Subject) (at : Bool) → is_there s seen ≡ at → AllThere seen there
      → ((older now : List Subject) → AllThere older now → add_all now (flat_map gives ss) ≡ add_all now (flat_map gives (new_ones older (each_once ss))))
      → add_all there (gives s ++ flat_map gives ss)
      ≡ add_all there (flat_map gives (cond (not at) (s ∷ new_ones seen (filter (λ t. not (same_subject s t)) (each_once ss)))
      (new_ones seen (filter (λ t. not (same_subject s t)) (each_once ss)))))
  again_by s ss seen there true is known rest =
      add-append there (gives s) (flat_map gives ss)
      ∙ ap (λ now. add_all now (flat_map gives ss)) (nothing_new there (gives s) (known s (among_held subject_order exact_subjects s seen is)))
      ∙ rest seen there known
      ∙ ap (λ those. add_all there (flat_map gives those)) (sym (no_more seen s (each_once ss) is))
  again_by s ss seen there false is known rest =
      add-append there (gives s) (flat_map gives ss)
      ∙ rest (s ∷ seen) (add_all there (gives s)) (more_there s seen there known)
      ∙ ap (λ those. add_all (add_all there (gives s)) (flat_map gives those)) (more_before seen s (each_once ss))
      ∙ sym (add-append there (gives s) (flat_map gives (new_ones seen (filter (λ t. not (same_subject s t)) (each_once ss)))))

  again : (ss seen there : List Subject) → AllThere seen there → add_all there (flat_map gives ss) ≡ add_all there
      (flat_map gives (new_ones seen (each_once ss)))
  again [] seen there known = refl
  again (s ∷ ss) seen there known = again_by s ss seen there (is_there s seen) refl known (λ older now all. again ss older now all)

  -- what subjects give, behind them: each subject needs to be looked at only once
  pub considered_once : (ss : List Subject) → add_all (add_all [] ss) (flat_map gives (add_all [] ss)) ≡ each_once (ss ++ flat_map gives ss)
  considered_once ss =
      let first = add_all [] ss in
      ap (λ those. add_all first (flat_map gives those)) (is_once ss ∙ sym (all_kept (λ t. not (is_there t [])) (λ t. refl) (each_once ss)))
      ∙ sym (again ss [] first (λ s at. absurd at))
      ∙ sym (add-append [] ss (flat_map gives ss))
      ∙ is_once (ss ++ flat_map gives ss)
