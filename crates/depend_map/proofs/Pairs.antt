-- Pairs of a key and a subject: their order, and what many of them do.
use Rattle.std.proofs.Common.{◌≡◌, ◌&&◌, ◌||◌, Bool, true, false, not, cond, refl, sym, ap, ◌∙◌}
use Rattle.std.specs.Cmp.{Equal-is, IsTotalOrder, eq_by_cmp_equiv}
use Rattle.std.proofs.Math.Bool.{and-or_distrib_left, and_comm, or_assoc, or_comm}
use Rattle.std.proofs.lemmas.Cmp.{on_total, then_total}
use Rattle.std.proofs.lemmas.Map.Lookups.{CmpEqualImpliesEq, exact_pairs}
use Rattle.cell_spec.specs.declared.key.Key.{Key}
use Rattle.cell_spec.specs.declared.key.Subject.{Subject}
use Rattle.cell_spec.specs.Names.{key_order, same_key, same_subject, subject_order}
use Rattle.cell_spec.proofs.Orders.{exact_keys, total_keys}
use Rattle.cell_spec.proofs.SubjectOrder.{exact_subjects, total_subjects}
use Rattle.depend_map.specs.Readers.{reader_order}

pub total_readers : IsTotalOrder reader_order
total_readers = then_total (on_total (λ (p : Key × Subject). p.0) total_keys) (on_total (λ (p : Key × Subject). p.1) total_subjects)

pub exact_readers : CmpEqualImpliesEq reader_order
exact_readers = exact_pairs key_order subject_order exact_keys exact_subjects

-- keys and subjects that test as one are one, from either side
pub one_key : (j k : Key) → same_key j k ≡ true → j ≡ k
one_key j k e = exact_keys j k ((Equal-is (key_order j k)).0 e)

pub one_subject : (s t : Subject) → same_subject s t ≡ true → s ≡ t
one_subject s t e = exact_subjects s t ((Equal-is (subject_order s t)).0 e)

pub either_key : (j k : Key) → same_key j k ≡ same_key k j
either_key j k = (eq_by_cmp_equiv total_keys).symm j k

pub either_subject : (s t : Subject) → same_subject s t ≡ same_subject t s
either_subject s t = (eq_by_cmp_equiv total_subjects).symm s t

-- ---- one more key, where all of one subject are looked at in turn
-- it isn't among the new ones, and is taken
pub one_taken : (t e a n h : Bool) → (e ≡ true → n ≡ false) → (not (e && t) && (not (t && (a && not n)) && h)) ≡ (not (t && ((a || e) && not n)) && h)
one_taken false false a n h f = refl
one_taken false true a n h f = refl
one_taken true false false n h f = refl
one_taken true false true n h f = refl
one_taken true true a true h f = let no = f refl in cc
one_taken true true false false h f = refl
one_taken true true true false h f = refl

-- it is among the new ones, and stays
pub one_stays : (t e a n h : Bool) → (e ≡ true → n ≡ true) → (not (t && (a && not n)) && h) ≡ (not (t && ((a || e) && not n)) && h)
one_stays true true a false h f = let no = f refl in cc
one_stays false e a n h f = refl
one_stays true false false n h f = refl
one_stays true false true n h f = refl
one_stays true true false true h f = refl
one_stays true true true true h f = refl

-- it isn't there, and is put
pub one_put : (t e a h : Bool) → ((e && t) || ((t && a) || h)) ≡ ((t && (a || e)) || h)
one_put t e a h =
    sym (or_assoc (e && t) (t && a) h)
    ∙ ap (λ b. b || h) (ap (λ b. b || (t && a)) (and_comm e t) ∙ or_comm (t && e) (t && a) ∙ sym (and-or_distrib_left t a e))

-- it is there
pub one_there : (t e a h : Bool) → (e ≡ true → t ≡ true → ((t && a) || h) ≡ true) → ((t && a) || h) ≡ ((t && (a || e)) || h)
one_there false e a h f = refl
one_there true false false h f = refl
one_there true false true h f = refl
one_there true true false h f = f refl refl
one_there true true true h f = refl

-- gained ones are put, then lost ones taken: the new ones are there for the subject, and for others what was there
pub replaced : (t o n h : Bool) → (t ≡ true → h ≡ o) → (not (t && (o && not n)) && ((t && n) || h)) ≡ cond t n h
replaced false o n h f = refl
replaced true false true h f = refl
replaced true true true h f = refl
replaced true false false h f = f refl
replaced true true false h f = refl
