-- The tests of a record frame decide what they are named for.
use Rattle.std.proofs.Common.{◌≡◌, ◌≤◌, ◌<◌, ℕ, ◌+◌, ◌-◌, ◌%◌, Bool, true, false, not, List, length, get_or, Decides, ◌&&◌, Result, MatchResult, Ok, Err}
use Rattle.std.proofs.Common.{refl, sym, ◌∙◌, subst, arith, zero-add, cond, nat_lt, nat_le}
use Rattle.std.specs.Prelude.{All, slice_index}
use Rattle.std.specs.List.{list_all, range_with_len}
use Rattle.std.proofs.lemmas.Bool.Decides.{nat_tests, Decides-eqb, Decides-and, Decides-like, Decides-ltb, not_from_Decides}
use Rattle.std.proofs.lemmas.Bool.{ltb-false, ltb-true}
use Rattle.std.proofs.lemmas.List.Sums.{AllPass-from_list_all, list_all-from_AllPass}
use Rattle.std.proofs.lemmas.List.FromFn.{length-range_with_len, get_or-range_with_len}
use Rattle.std.specs.Char.{IsAsciiDigit}
use Rattle.frame_spec.specs.RecordFrame.{FrameView, AreDigits, IsSize, IsLeader, IsEntry, IsDirectory, RecordFrame, in_leader, in_record, bytes_at, kind_of}
use Rattle.frame_spec.specs.RecordFrame.{length_at, base_at, length_text, position_text, field_length, field_position, entry_size_at, count_at}
use Rattle.frame_spec.specs.FrameDecision.{is_digit, is_size, is_leader, is_entry, is_directory, record_at, frame_at}
use Rattle.frame_spec.specs.FrameFaults.{HasFrameFault}
use Rattle.frame_spec.specs.declared.fault.FrameFault.{FrameFault}
use Rattle.frame_spec.specs.declared.fault.FrameFault.TheVariants.{Short, BadLeader, BadDirectory}

Decides-list_all : {X : Type 0} (p : X → Bool) (P : X → Type 0) → ((x : X) → Decides (p x) (P x)) → (xs : List X) → Decides (list_all p xs) (All P xs)
Decides-list_all p P each xs = (
  λ e k d h. (each (get_or xs k d)).0 (AllPass-from_list_all p xs e k d h),
  λ all. list_all-from_AllPass p xs (λ k d h. (each (get_or xs k d)).1 (all k d h)),
)

le_decides : (a b : ℕ) → Decides (nat_le a b) (a ≤ b)
le_decides a b = (λ e. grind (arith, nat_tests), λ h. grind (arith, nat_tests))

infixl 12 ◌and◌
◌and◌ : {x y : Bool} {P Q : Type 0} → Decides x P → Decides y Q → Decides (x && y) (P × Q)
p and q = Decides-and _ _ p q

digit_decides : (c : ℕ) → Decides (is_digit c) (IsAsciiDigit c)
digit_decides c = le_decides 48 c and le_decides c 57

size_decides : (c : ℕ) → Decides (is_size c) (IsSize c)
size_decides c = Decides-like _ (λ t. record { low = t.0; high = t.1 }) (λ s. (s.low, s.high)) (le_decides 49 c and le_decides c 57)

digits_decide : (xs : List ℕ) → Decides (list_all is_digit xs) (AreDigits xs)
digits_decide = Decides-list_all is_digit IsAsciiDigit digit_decides

leader_decides : (b : List ℕ) (p : ℕ) (first : Bool) → Decides (is_leader b p first) (IsLeader b p first)
unfolding is_leader
leader_decides b p first = Decides-like _
    (λ (((((((a, k), c), d), e), f), g), h). record {
      length_digits = a;
      kind = k;
      base_digits = c;
      length_size = d;
      position_size =
          e;
      tag_size = f;
      base_above = g;
      base_within = h;
    })
    (λ l. (((((((l.length_digits, l.kind), l.base_digits), l.length_size), l.position_size), l.tag_size), l.base_above), l.base_within))
    (digits_decide (bytes_at b p 5) and Decides-eqb (slice_index b (p + 6)) (kind_of first) and digits_decide (bytes_at b (p + 12) 5)
    and size_decides (slice_index b (p + 20)) and size_decides (slice_index b (p + 21)) and Decides-eqb (slice_index b (p + 23)) 52
    and le_decides 25 (base_at b p) and le_decides (base_at b p) (length_at b p))

entry_decides : (b : List ℕ) (p k : ℕ) → Decides (is_entry b p k) (IsEntry b p k)
unfolding is_entry
entry_decides b p k = Decides-like _
    (λ (((a, c), d), e). record { length_digits = a; position_digits = c; not_empty = d; within = e })
    (λ l. (((l.length_digits, l.position_digits), l.not_empty), l.within))
    (digits_decide (length_text b p k) and digits_decide (position_text b p k) and Decides-ltb 0 (field_length b p k)
    and le_decides (base_at b p + field_position b p k + field_length b p k) (length_at b p))

-- of each number below n
below_all : (P : ℕ → Type 0) (n : ℕ) → All P (range_with_len 0 n) → (k : ℕ) → k < n → P k
below_all P n all k below = subst P (get_or-range_with_len 0 n k 0 below ∙ zero-add k) (all k 0 (omega (arith, length-range_with_len 0 n)))

all_below : (P : ℕ → Type 0) (n : ℕ) → ((k : ℕ) → k < n → P k) → All P (range_with_len 0 n)
all_below P n each k d h = let below : k < n = omega (arith, length-range_with_len 0 n) in
    subst P (sym (get_or-range_with_len 0 n k d below ∙ zero-add k)) (each k below)

directory_decides : (b : List ℕ) (p : ℕ) → Decides (is_directory b p) (IsDirectory b p)
unfolding is_directory
directory_decides b p = Decides-like _
    (λ ((a, c), d). record { closed = a; whole = c; entries = below_all (IsEntry b p) (count_at b p) d })
    (λ l. ((l.closed, l.whole), all_below (IsEntry b p) (count_at b p) l.entries))
    (Decides-eqb (slice_index b (p + base_at b p - 1)) 30 and Decides-eqb ((base_at b p - 25) % entry_size_at b p) 0
    and Decides-list_all (is_entry b p) (IsEntry b p) (entry_decides b p) (range_with_len 0 (count_at b p)))

-- four tests in a row
chosen : (short no_leader short_record no_directory : Bool) (O : FrameView → Type 0) (F : FrameFault → Type 0) (x : FrameView)
    → (short ≡ true → F Short)
    → (short ≡ false → no_leader ≡ false → F BadLeader)
    → (short ≡ false → no_leader ≡ true → short_record ≡ true → F Short)
    → (short ≡ false → no_leader ≡ true → short_record ≡ false → no_directory ≡ false → F BadDirectory)
    → (short ≡ false → no_leader ≡ true → short_record ≡ false → no_directory ≡ true → O x)
    → MatchResult (cond short (Err Short) (cond (not no_leader) (Err BadLeader)
    (cond short_record (Err Short) (cond (not no_directory) (Err BadDirectory) (Ok x))))) O F
chosen true l r d O F x a b c e f = a refl
chosen false false r d O F x a b c e f = b refl refl
chosen false true true d O F x a b c e f = c refl refl refl
chosen false true false false O F x a b c e f = e refl refl refl refl
chosen false true false true O F x a b c e f = f refl refl refl refl

pub frame_decides : (b : List ℕ) (p : ℕ) (first : Bool) → MatchResult (frame_at b p first) (RecordFrame b p first) (HasFrameFault b p first)
unfolding frame_at
frame_decides b p first =
    let leader = leader_decides b p first in
    let directory = directory_decides b p in
    chosen (nat_lt (length b) (p + 24)) (is_leader b p first) (nat_lt (length b) (p + length_at b p)) (is_directory b p)
    (RecordFrame b p first) (HasFrameFault b p first) (record_at b p)
    (λ short. in_leader (ltb-true _ _ short))
    (λ long none. record { leader_fits = ltb-false _ _ long; no_leader = not_from_Decides _ leader none })
    (λ long is short. in_record (ltb-false _ _ long) (leader.0 is) (ltb-true _ _ short))
    (λ long is fits none. record {
      leader_fits = ltb-false _ _ long;
      leader = leader.0 is;
      fits = ltb-false _ _ fits;
      no_directory =
          not_from_Decides _ directory none;
    })
    (λ long is fits all. record {
      leader_fits = ltb-false _ _ long;
      leader = leader.0 is;
      fits = ltb-false _ _ fits;
      directory =
          directory.0 all;
      length_is = refl;
      fields_are = refl;
    })

-- answers that both hold are one
same_answer : (b : List ℕ) (p : ℕ) (first : Bool) (x y : Result FrameView FrameFault)
    → MatchResult x (RecordFrame b p first) (HasFrameFault b p first) → MatchResult y (RecordFrame b p first) (HasFrameFault b p first) → x ≡ y
same_answer b p first (Ok f) (Ok g) h k = grind arith
same_answer b p first (Ok f) (Err Short) h k = absurd (grind arith)
same_answer b p first (Ok f) (Err BadLeader) h k = absurd (k.no_leader h.leader)
same_answer b p first (Ok f) (Err BadDirectory) h k = absurd (k.no_directory h.directory)
same_answer b p first (Err Short) (Ok g) h k = absurd (grind arith)
same_answer b p first (Err BadLeader) (Ok g) h k = absurd (h.no_leader k.leader)
same_answer b p first (Err BadDirectory) (Ok g) h k = absurd (h.no_directory k.directory)
same_answer b p first (Err Short) (Err Short) h k = refl
same_answer b p first (Err Short) (Err BadLeader) h k = absurd (grind arith)
same_answer b p first (Err Short) (Err BadDirectory) h k = absurd (grind arith)
same_answer b p first (Err BadLeader) (Err Short) h k = absurd (grind arith)
same_answer b p first (Err BadLeader) (Err BadLeader) h k = refl
same_answer b p first (Err BadLeader) (Err BadDirectory) h k = absurd (h.no_leader k.leader)
same_answer b p first (Err BadDirectory) (Err Short) h k = absurd (grind arith)
same_answer b p first (Err BadDirectory) (Err BadLeader) h k = absurd (k.no_leader h.leader)
same_answer b p first (Err BadDirectory) (Err BadDirectory) h k = refl

pub answer_is : (b : List ℕ) (p : ℕ) (first : Bool) (answer : Result FrameView FrameFault)
    → MatchResult answer (RecordFrame b p first) (HasFrameFault b p first) → answer ≡ frame_at b p first
answer_is b p first answer h = same_answer b p first answer (frame_at b p first) h (frame_decides b p first)
