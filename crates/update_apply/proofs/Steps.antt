-- What a refused step makes of the steps behind it.
use Rattle.std.proofs.Common.{◌≡◌, ℕ, Result, Ok, Err, ap, sym, subst}
use Rattle.std.specs.Result.{IsErrAnd}
use Rattle.s57_types.specs.declared.fault.CellFault.{CellFault}
use Rattle.file_spec.specs.RecordFaults.{◌>>=◌}
use Rattle.update_spec.specs.declared.fault.UpdateFault.{UpdateFault}
use Rattle.update_apply.specs.Gives.{GivesUpdate, Refuses, RefusesAt, RefusesFile, refusal_at}
use Rattle.update_apply.specs.declared.refusal.StepRefusal.{StepRefusal}
use Rattle.update_apply.specs.declared.refusal.StepRefusal.TheVariants.{Fault, NoMemory}
use Rattle.update_apply.specs.declared.refusal.UpdateRefusal.{UpdateRefusal}
use Rattle.update_apply.specs.declared.refusal.UpdateRefusal.TheVariants as update

-- a refused step is the last
pub stops : {A B : Type 0} (e : StepRefusal) (x : Result A UpdateFault) (f : A → Result B UpdateFault) → Refuses e x → Refuses e (x >>= f)
stops (Fault fault) x f is = ap (λ r. r >>= f) is
stops NoMemory x f is = tt

-- a refusal for the fault of a step is one for that of the whole, where a fault of the step is the whole's
pub refused_by : {A B : Type 0} (e : StepRefusal) (x : Result A UpdateFault) (y : Result B UpdateFault) → Refuses e x
    → ((fault : UpdateFault) → x ≡ Err fault → y ≡ Err fault) → Refuses e y
refused_by (Fault fault) x y is next = next fault is
refused_by NoMemory x y is next = tt

-- what the exit of a `?` returns
pub refused_result : {A B : Type 0} (e : StepRefusal) (x : Result A UpdateFault) (y : Result B UpdateFault) (r : Result B StepRefusal)
    → IsErrAnd r (λ told. told ≡ e) → Refuses e x → ((fault : UpdateFault) → x ≡ Err fault → y ≡ Err fault) → GivesUpdate r y
refused_result e x y (Ok b) told is next = absurd told
refused_result e x y (Err other) told is next = subst (λ o. Refuses o y) (sym told) (refused_by e x y is next)

-- behind a step that was taken
pub goes : {A B : Type 0} (x : Result A UpdateFault) (a : A) (f : A → Result B UpdateFault) → x ≡ Ok a → (x >>= f) ≡ f a
goes x a f is = ap (λ r. r >>= f) is

pub then_gives : {A B : Type 0} (r : Result B StepRefusal) (x : Result A UpdateFault) (a : A) (f : A → Result B UpdateFault) → x ≡ Ok a
    → GivesUpdate r (f a) → GivesUpdate r (x >>= f)
then_gives r x a f is gives = subst (GivesUpdate r) (sym (goes x a f is)) gives

pub then_refuses : {A B : Type 0} (e : StepRefusal) (x : Result A UpdateFault) (a : A) (f : A → Result B UpdateFault) → x ≡ Ok a
    → Refuses e (f a) → Refuses e (x >>= f)
then_refuses e x a f is refuses = subst (Refuses e) (sym (goes x a f is)) refuses

-- a fault of a file's step is the fault of the whole
pub fault_stays : {X Y : Type 0} (number offset : ℕ) (e : StepRefusal) (x : Result X CellFault) (f : X → Result Y CellFault)
    → RefusesAt number offset e x → RefusesAt number offset e (x >>= f)
fault_stays number offset (Fault fault) x f is = ap (λ r. r >>= f) is
fault_stays number offset NoMemory x f is = tt

pub refuses_at : {X : Type 0} (number offset : ℕ) (e : StepRefusal) (x : Result X CellFault) (r : UpdateRefusal)
    → r ≡ refusal_at number offset e → RefusesAt number offset e x → RefusesFile r x
refuses_at number offset (Fault fault) x r refused is = rw refused is
refuses_at number offset NoMemory x r refused is = rw refused tt

pub file_stops : {A B : Type 0} (e : UpdateRefusal) (x : Result A CellFault) (f : A → Result B CellFault) → RefusesFile e x → RefusesFile e (x >>= f)
file_stops (update.Fault fault) x f is = ap (λ r. r >>= f) is
file_stops update.NoMemory x f is = tt
