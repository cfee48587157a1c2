-- The bytes of a leader that was written.
use Rattle.std.proofs.Common.{◌≡◌, ℕ, ◌+◌, Bool, true, false, List, length, refl, arith}
use Rattle.std.specs.Prelude.{slice_index, ◌++◌, ◌∷◌, []}
use Rattle.frame_spec.specs.RecordFrame.{bytes_at, kind_of}
use Rattle.frame_spec.specs.WrittenRecord.{StandsAt, digits, identifier_text, character_set_text}
use Rattle.frame_spec.proofs.PlacedBytes.{stands_at, stands_part}

-- a leader with m and n digits in its entry map, a base address and a length
abbrev pub leader_with : Bool → ℕ → ℕ → ℕ → ℕ → List ℕ
leader_with first m n base size = digits 5 size ++ identifier_text first ++ digits 5 base ++ character_set_text first ++ ((48 + m) ∷ (48 + n) ∷ 48 ∷ 52 ∷ [])

pub record LeaderAt (b : List ℕ) (p : ℕ) (first : Bool) (m n base size : ℕ) : Type 0 where
  pub length_text : bytes_at b p 5 ≡ digits 5 size
  pub kind : slice_index b (p + 6) ≡ kind_of first
  pub base_text : bytes_at b (p + 12) 5 ≡ digits 5 base
  pub length_size : slice_index b (p + 20) ≡ 48 + m
  pub position_size : slice_index b (p + 21) ≡ 48 + n
  pub tag_size : slice_index b (p + 23) ≡ 52

pub length-leader_with : (first : Bool) (m n base size : ℕ) → length (leader_with first m n base size) ≡ 24
length-leader_with true m n base size = refl
length-leader_with false m n base size = refl

leader_of : (b : List ℕ) (p : ℕ) (first : Bool) (m n base size : ℕ) → bytes_at b p 5 ≡ digits 5 size → slice_index b (p + 6) ≡ kind_of first
    → bytes_at b (p + 12) 5 ≡ digits 5 base → slice_index b (p + 20) ≡ 48 + m → slice_index b (p + 21) ≡ 48 + n → slice_index b (p + 23) ≡ 52
    → LeaderAt b p first m n base size
leader_of b p first m n base size l k t x y z = record { length_text = l; kind = k; base_text = t; length_size = x; position_size = y; tag_size = z }

pub leader_at : (b : List ℕ) (p : ℕ) (first : Bool) (m n base size : ℕ) → StandsAt b p (leader_with first m n base size) → LeaderAt b p first m n base size
leader_at b p true m n base size h = let x = leader_with true m n base size in
    leader_of b p true m n base size (let e : p + 0 ≡ p = omega arith in rw e at (stands_part b p x 0 5 h (omega arith))) (stands_at b p x 6 h (omega arith))
    (stands_part b p x 12 5 h (omega arith)) (stands_at b p x 20 h (omega arith)) (stands_at b p x 21 h (omega arith)) (stands_at b p x 23 h (omega arith))
leader_at b p false m n base size h = let x = leader_with false m n base size in
    leader_of b p false m n base size (let e : p + 0 ≡ p = omega arith in rw e at (stands_part b p x 0 5 h (omega arith))) (stands_at b p x 6 h (omega arith))
    (stands_part b p x 12 5 h (omega arith)) (stands_at b p x 20 h (omega arith)) (stands_at b p x 21 h (omega arith)) (stands_at b p x 23 h (omega arith))
