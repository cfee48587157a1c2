-- The first cause of a table.
use Rattle.std.proofs.Common.{◌≡◌, ◌∙◌, ℕ, List, [], ◌∷◌, Option, None, Some, Ok, Err, Result, refl, sym, subst}
use Rattle.std.specs.Prelude.{IsErrAnd, MatchResult}
use Rattle.std.specs.List.{AllByRecursion}
use Rattle.std.specs.Option.{option_map_or}
use Rattle.s57_types.specs.declared.name.RecName.{RecName}
use Rattle.topo_ops.specs.Chains.{Chain, no_chain}
use Rattle.topo_ops.specs.Refusals.{first_of, IsRefusal}
use Rattle.topo_ops.specs.declared.refusal.OpRefusal.{OpRefusal}
use Rattle.topo_ops.specs.declared.refusal.OpRefusal.TheVariants.{NoEdge, BadPlace, NameTaken, NotAChain, NodeUsed, AttrsDiffer, NotPaired, VersionEnd, Form}
use Rattle.topo_ops.specs.declared.refusal.OpRefusal.TheVariants.{NoMemory}

pub first_here : {X : Type 0} (o : Option X) (rest : List (Option X)) (x : X) → o ≡ Some x → first_of (o ∷ rest) ≡ Some x
first_here None rest x e = cc
first_here (Some y) rest x e = e

pub first_later : {X : Type 0} (o : Option X) (rest : List (Option X)) → o ≡ None → first_of (o ∷ rest) ≡ first_of rest
first_later None rest e = refl
first_later (Some y) rest e = cc

-- where none comes, the first doesn't, nor any behind it
first_none : {X : Type 0} (o : Option X) (rest : List (Option X)) → first_of (o ∷ rest) ≡ None → o ≡ None
first_none None rest e = refl
first_none (Some y) rest e = cc

rest_none : {X : Type 0} (o : Option X) (rest : List (Option X)) → first_of (o ∷ rest) ≡ None → first_of rest ≡ None
rest_none None rest e = e
rest_none (Some y) rest e = cc

-- where none comes, no row comes
pub all_none : {X : Type 0} (os : List (Option X)) → first_of os ≡ None → AllByRecursion (λ o. o ≡ None) os
all_none [] h = tt
all_none (o ∷ os) h = (first_none o os h, all_none os (rest_none o os h))

-- a refusal that one rule tells is told by another that tells the same
pub refused_as : (p q : Option OpRefusal) → ((e : OpRefusal) → p ≡ Some e → q ≡ Some e) → (e : OpRefusal) → IsRefusal p e → IsRefusal q e
refused_as p q same (NoEdge id) h = same (NoEdge id) h
refused_as p q same (BadPlace last) h = same (BadPlace last) h
refused_as p q same (NameTaken name) h = same (NameTaken name) h
refused_as p q same NotAChain h = same NotAChain h
refused_as p q same (NodeUsed from place) h = same (NodeUsed from place) h
refused_as p q same AttrsDiffer h = same AttrsDiffer h
refused_as p q same (NotPaired id place) h = same (NotPaired id place) h
refused_as p q same (VersionEnd name) h = same (VersionEnd name) h
refused_as p q same (Form fault) h = same (Form fault) h
refused_as p q same NoMemory h = tt

-- what the first row of a table tells
pub first_told : (row : Option OpRefusal) (rest : ℕ → List (Option OpRefusal)) (refusal : ℕ → Option OpRefusal)
    → ((nall : ℕ) → refusal nall ≡ first_of (row ∷ rest nall)) → (e : OpRefusal) → IsRefusal row e → (nall : ℕ) → IsRefusal (refusal nall) e
first_told row rest refusal is e h nall = refused_as row (refusal nall) (λ x here. is nall ∙ first_here row (rest nall) x here) e h

pub first_only : {X : Type 0} (o : Option X) → first_of (o ∷ []) ≡ o
first_only None = refl
first_only (Some x) = refl

-- a refusal that a call hands on
pub handed_on : {T : Type 0} (Good : T → Type 0) (Bad : OpRefusal → Type 0) (refusal : OpRefusal) (result : Result T OpRefusal) → Bad refusal
    → IsErrAnd result (λ told. told ≡ refusal) → MatchResult result Good Bad
handed_on Good Bad refusal (Ok t) bad told = absurd told
handed_on Good Bad refusal (Err e) bad told = subst Bad (sym told) bad

-- no edge of the name: the table of those that have one isn't reached
missing_by : (rows : Chain → Option OpRefusal) (n : RecName) (o : Option Chain) (e : OpRefusal) → no_chain n o ≡ Some e
    → option_map_or rows o (Some (NoEdge n.id)) ≡ Some e
missing_by rows n None e is = is
missing_by rows n (Some chain) e is = cc

pub missing : (rows : Chain → Option OpRefusal) (n : RecName) (o : Option Chain) (e : OpRefusal) → IsRefusal (no_chain n o) e
    → IsRefusal (option_map_or rows o (Some (NoEdge n.id))) e
missing rows n o e h = refused_as (no_chain n o) (option_map_or rows o (Some (NoEdge n.id))) (missing_by rows n o) e h
