-- One record of a file and the records after it.
use Rattle.std.proofs.Common.{◌≡◌, ◌≤◌, ◌<◌, ℕ, zero, suc, ◌+◌, ◌-◌, Bool, false, List, [], ◌∷◌, length, Result, Ok, Err, Some, None, refl, sym, ap, subst}
use Rattle.std.proofs.Common.{◌∙◌, inl, inr, MatchResult, arith}
use Rattle.std.specs.Option.{option_map}
use Rattle.std.specs.Result.{result_ok}
use Rattle.std.proofs.lemmas.Bool.{le-leb, lt-leb, cases_lt}
use Rattle.frame_spec.specs.RecordFrame.{FrameView, RecordFrame}
use Rattle.frame_spec.specs.FrameFaults.{HasFrameFault}
use Rattle.frame_spec.proofs.FrameTests.{frame_decides}
use Rattle.frame_spec.specs.FrameDecision.{frame_at}
use Rattle.frame_spec.specs.declared.fault.FrameFault.{FrameFault}
use Rattle.file_spec.specs.FileRecords.{FileRecord, record_then, records_from, records_after, first_frame}

-- at the end of the file
pub records_from-end : (n : ℕ) (b : List ℕ) (p : ℕ) (first : Bool) → length b ≤ p → records_from n b p first ≡ []
unfolding records_from
records_from-end zero b p first past = refl
records_from-end (suc n) b p first past = rw (le-leb (length b) p past) refl

records_from-suc : (n : ℕ) (b : List ℕ) (p : ℕ) (first : Bool) → p < length b
    → records_from (suc n) b p first ≡ record_then (λ frame. records_from n b (p + frame.length) false) p (frame_at b p first)
unfolding records_from
records_from-suc n b p first before = rw (lt-leb (length b) p before) refl

-- a frame is never empty
frame_has_length : (b : List ℕ) (p : ℕ) (first : Bool) (frame : FrameView) → frame_at b p first ≡ Ok frame → 0 < frame.length
frame_has_length b p first frame is =
    let P : Result FrameView FrameFault → Type 0 = λ r. MatchResult r (RecordFrame b p first) (HasFrameFault b p first) in
    let stands : RecordFrame b p first frame = subst P is (frame_decides b p first) in
    let base = stands.leader.base_above in
    let within = stands.leader.base_within in
    let length_is = stands.length_is in
    omega (arith, base, within, length_is)

same_then : (others more : FrameView → List FileRecord) (p : ℕ) (found : Result FrameView FrameFault)
    → ((frame : FrameView) → found ≡ Ok frame → others frame ≡ more frame)
    → record_then others p found ≡ record_then more p found
same_then others more p (Ok frame) later = ap (λ rs. record { offset = p; found = Ok frame } ∷ rs) (later frame refl)
same_then others more p (Err fault) later = refl

-- enough steps are as many as there are bytes
enough_steps : (b : List ℕ) (n m p : ℕ) (first : Bool) → length b ≤ p + n → length b ≤ p + m → records_from n b p first ≡ records_from m b p first
enough_steps b zero m p first n_enough m_enough = records_from-end zero b p first (omega arith) ∙ sym (records_from-end m b p first (omega arith))
enough_steps b (suc n) zero p first n_enough m_enough = records_from-end (suc n) b p first (omega arith) ∙ sym (records_from-end zero b p first (omega arith))
enough_steps b (suc n) (suc m) p first n_enough m_enough =
    elim (cases_lt p (length b)) [
      | inl before ↦
          records_from-suc n b p first before
          ∙ same_then (λ frame. records_from n b (p + frame.length) false) (λ frame. records_from m b (p + frame.length) false) p (frame_at b p first)
          (λ frame is. let long = frame_has_length b p first frame is in
          enough_steps b n m (p + frame.length) false (omega (arith, long)) (omega (arith, long)))
          ∙ sym (records_from-suc m b p first before)
      | inr past ↦ records_from-end (suc n) b p first past ∙ sym (records_from-end (suc m) b p first past)
    ]

pub records_after-end : (b : List ℕ) (p : ℕ) (first : Bool) → length b ≤ p → records_after b p first ≡ []
unfolding records_after
records_after-end b p first past = records_from-end (length b - p) b p first past

-- a place before the end has a record, and the others begin behind it, or a fault
pub records_after-next : (b : List ℕ) (p : ℕ) (first : Bool) → p < length b
    → records_after b p first ≡ record_then (λ frame. records_after b (p + frame.length) false) p (frame_at b p first)
unfolding records_after
records_after-next b p first before =
    let one_more : length b - p ≡ suc (length b - (p + 1)) = omega arith in
    ap (λ n. records_from n b p first) one_more
    ∙ records_from-suc (length b - (p + 1)) b p first before
    ∙ same_then (λ frame. records_from (length b - (p + 1)) b (p + frame.length) false)
    (λ frame. records_from (length b - (p + frame.length)) b (p + frame.length) false) p (frame_at b p first)
    (λ frame is. let long = frame_has_length b p first frame is in
    enough_steps b (length b - (p + 1)) (length b - (p + frame.length)) (p + frame.length) false (omega (arith, long)) (omega arith))

-- the first record from a place on
pub first_frame-found : (b : List ℕ) (p : ℕ) (frame : FrameView) (first : Bool) → p < length b → frame_at b p first ≡ Ok frame
    → first_frame (records_after b p first) ≡ Some (frame, records_after b (p + frame.length) false)
first_frame-found b p frame first before is =
    ap first_frame (records_after-next b p first before ∙ ap (record_then (λ frame. records_after b (p + frame.length) false) p) is)

pub first_frame-fault : (b : List ℕ) (p : ℕ) (fault : FrameFault) (first : Bool) → p < length b → frame_at b p first ≡ Err fault
    → first_frame (records_after b p first) ≡ None
first_frame-fault b p fault first before is =
    ap first_frame (records_after-next b p first before ∙ ap (record_then (λ frame. records_after b (p + frame.length) false) p) is)

pub first_frame-end : (b : List ℕ) (p : ℕ) (first : Bool) → length b ≤ p → first_frame (records_after b p first) ≡ None
first_frame-end b p first past = ap first_frame (records_after-end b p first past)

-- what was found at a place is the first record from there on
pub first_frame-is : (b : List ℕ) (p : ℕ) (first : Bool) (found : Result FrameView FrameFault) → p < length b → found ≡ frame_at b p first
    → option_map (λ frame. (frame, records_after b (p + frame.length) false)) (result_ok found) ≡ first_frame (records_after b p first)
first_frame-is b p first (Ok frame) before is = sym (first_frame-found b p frame first before (sym is))
first_frame-is b p first (Err fault) before is = sym (first_frame-fault b p fault first before (sym is))

-- before the end of a file there is one
pub records_after-some : (b : List ℕ) (p : ℕ) (first : Bool) → p < length b → 0 < length (records_after b p first)
records_after-some b p first before = rw (records_after-next b p first before)
    (not_empty (λ frame. records_after b (p + frame.length) false) p (frame_at b p first))
  where
    not_empty : (others : FrameView → List FileRecord) (p : ℕ) (found : Result FrameView FrameFault) → 0 < length (record_then others p found)
    not_empty others p (Ok frame) = omega arith
    not_empty others p (Err fault) = omega arith
