-- An order of sessions while it is gone through: which numbers are left, and how many entries there are.
use Rattle.std.proofs.Common.{◌≡◌, ◌==◌, ℕ, zero, suc, ◌+◌, ◌-◌, ◌<◌, ◌≤◌, Bool, true, false, List, [], ◌∷◌, length, take, count_by, cond, All}
use Rattle.std.proofs.Common.{sym, ap, ◌∙◌, subst, arith}
use Rattle.std.specs.Prelude.{slice_index_or}
use Rattle.std.proofs.lemmas.List.Sums.{sum_by-cons}
use Rattle.std.proofs.lemmas.List.Elements.{All-cons, All-head, All-nil, All-tail, All-take}
use Rattle.std.proofs.lemmas.List.{length-map}
use Rattle.text_spec.specs.declared.command.Command.{Command}
use Rattle.text_spec.specs.OrderLine.{IsOrder}
use Rattle.text_spec.specs.ScriptLines.{command_limit, is_shared}
use Rattle.commit_book.specs.Books.{entry_limit}
use Rattle.history_spec.specs.declared.entry.Entry.{Entry}
use Rattle.history_spec.specs.Entries.{entries_of, order_of_entries}
use Rattle.room_laws.specs.Orders.{quotas_of}
use Rattle.room_laws.proofs.Interleaved.{desk_count, same_number}
use Rattle.room_laws.proofs.Orders.{few_entries, quota_there}
use Rattle.sessions.specs.Replays.{IsShortScript, session_limit}

-- a number stands less often before a place where it stands
taken_below : (n : ℕ) (order : List ℕ) (j d : ℕ) → j < length order → slice_index_or order j d ≡ n
    → count_by (λ o. o == n) (take j order) < count_by (λ o. o == n) order
taken_below n [] j d within is = absurd (omega (arith, within))
taken_below n (x ∷ order) zero d within is =
    let one = sum_by-cons (λ o. cond (o == n) 1 0) x order ∙ ap (λ (b : Bool). cond b 1 0 + count_by (λ o. o == n) order)
    (ap (λ o. o == n) is ∙ same_number n) in omega (arith, one)
taken_below n (x ∷ order) (suc j) d within is =
    let rest = taken_below n order j d (omega (arith, within)) is in
    let all = sum_by-cons (λ o. cond (o == n) 1 0) x order in
    let some = sum_by-cons (λ o. cond (o == n) 1 0) x (take j order) in omega (arith, rest, all, some)

-- and nowhere more often than in all
taken_within : (n : ℕ) (order : List ℕ) (j : ℕ) → count_by (λ o. o == n) (take j order) ≤ count_by (λ o. o == n) order
taken_within n order zero = omega arith
taken_within n [] (suc j) = omega arith
taken_within n (x ∷ order) (suc j) =
    let rest = taken_within n order j in
    let all = sum_by-cons (λ o. cond (o == n) 1 0) x order in
    let some = sum_by-cons (λ o. cond (o == n) 1 0) x (take j order) in omega (arith, rest, all, some)

pub count_within : (cs : List Command) → count_by is_shared cs ≤ length cs
count_within [] = omega arith
count_within (x ∷ cs) =
    let rest = count_within cs in
    let all = sum_by-cons (λ c. cond (is_shared c) 1 0) x cs in by_test (is_shared x) rest all
  where
    by_test : (b : Bool) → count_by is_shared cs ≤ length cs → count_by is_shared (x ∷ cs) ≡ cond b 1 0 + count_by is_shared cs
        → count_by is_shared (x ∷ cs) ≤ suc (length cs)
    by_test true rest all = omega (arith, rest, all)
    by_test false rest all = omega (arith, rest, all)

pub script_short : (scripts : List (List Command)) (k : ℕ) → All IsShortScript scripts → length (slice_index_or scripts k []) ≤ command_limit
script_short [] k all = omega arith
script_short (s ∷ scripts) zero all = All-head IsShortScript s scripts all
script_short (s ∷ scripts) (suc k) all = script_short scripts k (All-tail IsShortScript s scripts all)

pub desks_within : (k : ℕ) (es : List Entry) → All (λ i. (1 ≤ i) × (i ≤ k)) (order_of_entries es) → All (λ (e : Entry). (1 ≤ e.desk) × (e.desk ≤ k)) es
desks_within k [] all = All-nil (λ (e : Entry). (1 ≤ e.desk) × (e.desk ≤ k))
desks_within k (e ∷ es) all = All-cons (λ (e : Entry). (1 ≤ e.desk) × (e.desk ≤ k)) e es (All-head (λ i. (1 ≤ i) × (i ≤ k)) e.desk (order_of_entries es) all)
    (desks_within k es (All-tail (λ i. (1 ≤ i) × (i ≤ k)) e.desk (order_of_entries es) all))

module _ (scripts : List (List Command)) (order : List ℕ) (o : IsOrder (quotas_of scripts) order) (j : ℕ) (entries : List Entry)
    (order_is : order_of_entries entries ≡ take j order) where
  abbrev script_at : ℕ → List Command
  script_at n = slice_index_or scripts (n - 1) []

  counted : (n : ℕ) → length (entries_of n entries) ≡ count_by (λ other. other == n) (take j order)
  counted n = sym (desk_count n entries) ∙ ap (count_by (λ other. other == n)) order_is

  quota_is : (n : ℕ) → 1 ≤ n → n ≤ length scripts → count_by (λ other. other == n) order ≡ count_by is_shared (script_at n)
  quota_is n low high = o.each n low (subst (λ k. n ≤ k) (sym (length-map scripts (count_by is_shared))) high) ∙ quota_there scripts (n - 1)

  -- a session whose number stands next has views or commits left
  pub one_left : (d n : ℕ) → j < length order → slice_index_or order j d ≡ n → 1 ≤ n → n ≤ length scripts
      → length (entries_of n entries) < count_by is_shared (script_at n)
  one_left d n within is low high =
      let some = counted n in
      let less = taken_below n order j d within is in
      let all = quota_is n low high in omega (arith, some, less, all)

  -- the log has room
  pub room_left : length scripts ≤ session_limit → All IsShortScript scripts → length entries < entry_limit
  room_left few short =
      let numbers = subst (λ k. All (λ i. (1 ≤ i) × (i ≤ k)) order) (length-map scripts (count_by is_shared)) o.sessions in
      let all = few_entries command_limit (length scripts) entries
      (desks_within (length scripts) entries (subst (All (λ i. (1 ≤ i) × (i ≤ length scripts))) (sym order_is)
      (All-take (λ i. (1 ≤ i) × (i ≤ length scripts)) j order numbers)))
      (λ i low high.
      let some = counted i in
      let less = taken_within i order j in
      let quota = quota_is i low high in
      let within = count_within (script_at i) in
      let least = script_short scripts (i - 1) short in omega (arith, some, less, quota, within, least)) in
      omega (arith, all, few)

-- at the end no session has any left
pub none_left : (scripts : List (List Command)) (order : List ℕ) (entries : List Entry) → IsOrder (quotas_of scripts) order
    → order_of_entries entries ≡ order → (n : ℕ) → 1 ≤ n → n ≤ length scripts
    → length (entries_of n entries) ≡ count_by is_shared (slice_index_or scripts (n - 1) [])
none_left scripts order entries o is n low high =
    sym (desk_count n entries)
    ∙ ap (count_by (λ other. other == n)) is
    ∙ o.each n low (subst (λ k. n ≤ k) (sym (length-map scripts (count_by is_shared))) high)
    ∙ quota_there scripts (n - 1)
