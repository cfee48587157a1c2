-- The first round has no pair.
use Rattle.std.proofs.Common.{◌≡◌, ◌&&◌, Bool, true, false, List, [], ◌∷◌, ◌++◌, cond, filter, refl}
use Rattle.std.specs.List.{list_all}
use Rattle.std.proofs.lemmas.Bool.{and_parts, or_from}
use Rattle.s57_types.specs.declared.name.RecName.{RecName}
use Rattle.cell_spec.specs.declared.key.Key.{Key}
use Rattle.cell_spec.specs.declared.key.Key.TheVariants.{Name, Refs, Foid}
use Rattle.cell_spec.specs.declared.key.Subject.{Subject}
use Rattle.cell_spec.specs.declared.key.Subject.TheVariants.{Rec, Side, Pair, Ident}
use Rattle.cell_spec.specs.Names.{is_head_name, same_subject}
use Rattle.rule_spec.specs.Affected.{Change, each_once, first_round, is_single, named_by, pair_of, reads_key}
use Rattle.rule_spec.specs.Findings.{is_below, subjects}
use Rattle.rule_spec.specs.Records.{is_edge_name}
use Rattle.affected_subjects.proofs.EachOnce.{is_there}
use Rattle.affected_subjects.proofs.Known.{all_append, all_flat, all_once}

tested_by : (x : Subject) (rest : List Subject) (b : Bool) → list_all is_single rest ≡ true
    → list_all is_single (cond (is_single x && b) (x ∷ rest) rest) ≡ true
tested_by (Rec n) rest true e = e
tested_by (Side n) rest true e = e
tested_by (Pair a b) rest true e = e
tested_by (Ident l) rest true e = e
tested_by (Rec n) rest false e = e
tested_by (Side n) rest false e = e
tested_by (Pair a b) rest false e = e
tested_by (Ident l) rest false e = e

tested : (q : Subject → Bool) (xs : List Subject) → list_all is_single (filter (λ s. is_single s && q s) xs) ≡ true
tested q [] = refl
tested q (x ∷ xs) = tested_by x (filter (λ s. is_single s && q s) xs) (q x) (tested q xs)

named_rows : (n : RecName) (head edge : Bool) → list_all is_single (cond head [] (Rec n ∷ []) ++ cond edge (Side n ∷ []) []) ≡ true
named_rows n true true = refl
named_rows n true false = refl
named_rows n false true = refl
named_rows n false false = refl

named_single : (k : Key) → list_all is_single (named_by k) ≡ true
named_single (Name n) = named_rows n (is_head_name n) (is_edge_name n)
named_single (Refs n) = refl
named_single (Foid l) = refl

singles : (ch : Change) → list_all is_single (first_round ch) ≡ true
singles ch =
    all_flat is_single (λ k. filter (λ s. is_single s && reads_key ch.before k s) (subjects ch.before) ++ named_by k)
    (λ k. all_append is_single (filter (λ s. is_single s && reads_key ch.before k s) (subjects ch.before)) (named_by k)
    (tested (reads_key ch.before k) (subjects ch.before)) (named_single k)) ch.touched

other : (a b : RecName) (s : Subject) → is_single s ≡ true → same_subject (Pair a b) s ≡ false
other a b (Rec n) e = refl
other a b (Side n) e = refl
other a b (Pair x y) e = cc
other a b (Ident l) e = refl

lacking : (a b : RecName) (ss : List Subject) → list_all is_single ss ≡ true → is_there (Pair a b) ss ≡ false
lacking a b [] e = refl
lacking a b (s ∷ ss) e =
    let parts = and_parts (is_single s) (list_all is_single ss) e in
    or_from (same_subject (Pair a b) s) (is_there (Pair a b) ss) (other a b s parts.0) (lacking a b ss parts.1)

lacking_by : (n m : RecName) (ss : List Subject) (below : Bool) → list_all is_single ss ≡ true → is_there (cond below (Pair n m) (Pair m n)) ss ≡ false
lacking_by n m ss true e = lacking n m ss e
lacking_by n m ss false e = lacking m n ss e

-- it has no pair of any two names
pub no_pair : (ch : Change) (n m : RecName) → is_there (pair_of n m) (each_once (first_round ch)) ≡ false
no_pair ch n m = lacking_by n m (each_once (first_round ch)) (is_below n m) (all_once is_single (first_round ch) (singles ch))
