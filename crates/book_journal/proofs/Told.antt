-- Facts of bytes that a disk may tell.
use Rattle.std.proofs.Common.{◌≡◌, Option, None, Some, IfSome, IsSome, OnOk, Result, Ok, Err, refl, subst}
use Rattle.std.proofs.lemmas.Bool.{false≢true}
use Rattle.enc_outside.specs.Files.{Told}

pub if_some : {A : Type 0} (P Q : A → Type 0) (o : Option A) → IfSome o P → ((x : A) → o ≡ Some x → P x → Q x) → IfSome o Q
if_some P Q None is so = tt
if_some P Q (Some x) is so = so x refl is

pub some_at : {A : Type 0} (P : A → Type 0) (o : Option A) (x : A) → o ≡ Some x → IfSome o P → P x
some_at {A} P o x e is = let there : IfSome (Some x) P = subst (λ (q : Option A). IfSome q P) e is in there

-- what was told before a write, and what after it
pub told_at : {A : Type 0} (R : A → A → Type 0) (old new : Option A) (x : A) → old ≡ Some x → (IsSome old → IsSome new) → Told R old new
    → (y : A) × (new ≡ Some y) × R x y
told_at R None new x e on told = cc
told_at R (Some a) None x e on told = absurd (false≢true (on refl))
told_at {A} R (Some a) (Some y) x e on told = let same : a ≡ x = cc in (y, refl, subst (λ (z : A). R z y) same told)

pub if_ok : {T E P : Type 0} (result : Result T E) → P → OnOk result P
if_ok (Ok x) is = is
if_ok (Err why) is = tt

pub on_ok : {T E P Q : Type 0} (result : Result T E) → OnOk result P → (P → Q) → OnOk result Q
on_ok (Ok x) is so = so is
on_ok (Err why) is so = tt
