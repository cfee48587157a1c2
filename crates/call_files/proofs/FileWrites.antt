-- One change of a file after another.
use Rattle.std.proofs.Common.{◌≡◌, inl, inr, ℕ, List, [], ◌++◌, take, Option, Some, None, refl, sym, ◌∙◌, subst}
use Rattle.std.specs.Prelude.{IfSome, IsSome}
use Rattle.std.proofs.lemmas.Bool.{false≢true}
use Rattle.enc_outside.specs.Files.{AppendsTo, Files, MayEmpty, SameFiles, StaysUntold, Told, Writes}
use Rattle.call_files.specs.Output.{HasFront, IsBegun}

-- what holds of two changes, one after the other, holds of both where it does where all is told
told_both : (P Q R : Files → Files → Type 0) (a b c : Option Files) → ((x y z : Files) → P x y → Q y z → R x z) → Told P a b
    → StaysUntold b c → Told Q b c → Told R a c
told_both P Q R None b c make first stays second = tt
told_both P Q R (Some x) b None make first stays second = tt
told_both P Q R (Some x) None (Some z) make first stays second = absurd (false≢true (sym (stays refl)))
told_both P Q R (Some x) (Some y) (Some z) make first stays second = make x y z first second

pub appended_more : (name x y : List ℕ) (a b c : Option Files) → Told (Writes name x) a b → StaysUntold b c → Told (AppendsTo name y) b c
    → Told (Writes name (x ++ y)) a c
appended_more name x y a b c =
    told_both (Writes name x) (AppendsTo name y) (Writes name (x ++ y)) a b c
    (λ fs gs hs wrote appended. record {
      written = subst (λ (file : Option (List ℕ)). IfSome file (λ content. hs name ≡ Some (content ++ y))) wrote.written appended.written;
      others = λ other apart. appended.others other apart ∙ wrote.others other apart;
    })

-- a beginning of the bytes is left where an append failed
pub stopped_there : (name bytes : List ℕ) (n : ℕ) (a b c : Option Files) → Told (Writes name (take n bytes)) a b → StaysUntold b c
    → Told SameFiles b c → Told (HasFront name bytes) a c
stopped_there name bytes n a b c =
    told_both (Writes name (take n bytes)) SameFiles (HasFront name bytes) a b c
    (λ fs gs hs wrote same. record { left = (n, same name ∙ wrote.written); others = λ other apart. same other ∙ wrote.others other apart })

pub empty_there : (name : List ℕ) (files : Option Files) → IfSome files (λ fs. fs name ≡ Some []) → Told (Writes name []) files files
empty_there name None there = tt
empty_there name (Some fs) there = record { written = there; others = λ other apart. refl }

pub is_there : (name x : List ℕ) (a b : Option Files) → Told (Writes name x) a b → StaysUntold a b → IfSome b (λ fs. IsSome (fs name))
is_there name x a None wrote stays = tt
is_there name x None (Some gs) wrote stays = absurd (false≢true (sym (stays refl)))
is_there name x (Some fs) (Some gs) wrote stays = subst IsSome (sym wrote.written) refl

pub made_empty : (name : List ℕ) (a b : Option Files) → Told (Writes name []) a b → StaysUntold a b → IfSome b (λ fs. fs name ≡ Some [])
made_empty name a None wrote stays = tt
made_empty name None (Some gs) wrote stays = absurd (false≢true (sym (stays refl)))
made_empty name (Some fs) (Some gs) wrote stays = wrote.written

pub made_and_written : (name bytes : List ℕ) (a b c : Option Files) → Told (Writes name []) a b → StaysUntold b c → Told (Writes name bytes) b c
    → Told (Writes name bytes) a c
made_and_written name bytes a b c =
    told_both (Writes name []) (Writes name bytes) (Writes name bytes) a b c
    (λ fs gs hs made wrote. record { written = wrote.written; others = λ other apart. wrote.others other apart ∙ made.others other apart })

pub made_and_begun : (name bytes : List ℕ) (a b c : Option Files) → Told (Writes name []) a b → StaysUntold b c → Told (HasFront name bytes) b c
    → Told (IsBegun name bytes) a c
made_and_begun name bytes a b c =
    told_both (Writes name []) (HasFront name bytes) (IsBegun name bytes) a b c
    (λ fs gs hs made begun. inr (record { left = begun.left; others = λ other apart. begun.others other apart ∙ made.others other apart }))

pub maybe_empty : (name bytes : List ℕ) (a b : Option Files) → Told (MayEmpty name) a b → Told (IsBegun name bytes) a b
maybe_empty name bytes None b may = tt
maybe_empty name bytes (Some fs) None may = tt
maybe_empty name bytes (Some fs) (Some gs) may = inl may
