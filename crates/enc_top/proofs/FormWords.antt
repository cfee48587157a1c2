-- The form of the words of a call, by its first word and the others.
use Rattle.std.proofs.Common.{◌≡◌, ℕ, ◌-◌, ◌<◌, ◌≤◌, take, take_all, ◌&&◌, Bool, true, false, List, [], ◌∷◌, length, map, get_or, drop, cond, String, Global}
use Rattle.std.proofs.Common.{Option, string_bytes, refl, sym, ap, ◌∙◌, arith}
use Rattle.std.specs.Prelude.{codes, nat_le}
use Rattle.std.proofs.lemmas.Bool.Decides.{nat_tests}
use Rattle.std.proofs.lemmas.List.{length-drop, length-map}
use Rattle.enc_top.specs.Words.{Form, apply_among, apply_form, begins_with_room, check_among, check_form, coordinate_of, drill_among, drill_of, edge_among}
use Rattle.enc_top.specs.Words.{edge_of, form_of, is_between, join_in, make_among, make_of, no_form, number_up_to, probe_among, probe_of, replay_among}
use Rattle.enc_top.specs.Words.{replay_form, room_form, split_in}
use Rattle.call_files.specs.Words.{is_word}
use Rattle.enc_top.specs.declared.operation.Operation.{Operation}
use Rattle.enc_top.proofs.WordLists.{three_words, two_words}

-- the words behind the first ones
pub behind : (n : ℕ) (words : List (String Global)) → take (length words - n) (drop n words) ≡ drop n words
behind n words = take_all (length words - n) (drop n words) (let rest = length-drop n words in omega (arith, rest))

-- ---- the words behind the first
pub one_word : (others : List (String Global)) (name : String Global) → length others ≡ 1 → name ≡ get_or others 0 name
    → check_among (map string_bytes others) ≡ check_form (string_bytes name)
one_word [] name one is = absurd (omega (arith, one))
one_word (a ∷ []) name one is = ap (λ (s : String Global). check_form (string_bytes s)) (sym is)
one_word (a ∷ b ∷ rest) name one is = absurd (omega (arith, one))

pub not_one_word : (others : List (String Global)) → (length others ≡ 1 → ⊥) → check_among (map string_bytes others) ≡ no_form
not_one_word [] other = refl
not_one_word (a ∷ []) other = absurd (other refl)
not_one_word (a ∷ b ∷ rest) other = refl

between : (n : ℕ) → 1 ≤ n → n ≤ 16 → is_between 1 16 n ≡ true
between n low high = grind (arith, nat_tests)

pub replay_words : (others : List (String Global)) (cell out order : String Global) (names : List (String Global)) → 3 ≤ length others
    → cell ≡ get_or others 0 cell → out ≡ get_or others 1 out → order ≡ get_or others 2 order → names ≡ drop 3 others
    → 1 ≤ length names → length names ≤ 16 → replay_among (map string_bytes others) ≡ replay_form (string_bytes cell) (string_bytes out)
    (string_bytes order) (map string_bytes names)
replay_words [] cell out order names many is_cell is_out is_order are low high = absurd (omega (arith, many))
replay_words (a ∷ []) cell out order names many is_cell is_out is_order are low high = absurd (omega (arith, many))
replay_words (a ∷ b ∷ []) cell out order names many is_cell is_out is_order are low high = absurd (omega (arith, many))
replay_words (a ∷ b ∷ d ∷ rest) cell out order names many is_cell is_out is_order are low high =
    let count : length (map string_bytes rest) ≡ length names = length-map rest string_bytes ∙ ap length (sym are) in
    let right : is_between 1 16 (length (map string_bytes rest)) ≡ true =
    between (length (map string_bytes rest)) (omega (arith, low, count)) (omega (arith, high, count)) in
    ap (λ t. cond t (replay_form (string_bytes a) (string_bytes b) (string_bytes d) (map string_bytes rest)) no_form) right
    ∙ (λ i. replay_form (string_bytes (sym is_cell i)) (string_bytes (sym is_out i)) (string_bytes (sym is_order i)) (map string_bytes (sym are i)))

not_between : (n : ℕ) → (1 ≤ n → n ≤ 16 → ⊥) → is_between 1 16 n ≡ false
not_between n other = by_tests (nat_le 1 n) (nat_le n 16) refl refl
  where
    by_tests : (low high : Bool) → nat_le 1 n ≡ low → nat_le n 16 ≡ high → (low && high) ≡ false
    by_tests false high is_low is_high = refl
    by_tests true false is_low is_high = refl
    by_tests true true is_low is_high = absurd (other (grind (arith, nat_tests)) (grind (arith, nat_tests)))

pub wrong_count : (others names : List (String Global)) → 3 ≤ length others → names ≡ drop 3 others → (1 ≤ length names → length names ≤ 16 → ⊥)
    → replay_among (map string_bytes others) ≡ no_form
wrong_count [] names many are other = absurd (omega (arith, many))
wrong_count (a ∷ []) names many are other = absurd (omega (arith, many))
wrong_count (a ∷ b ∷ []) names many are other = absurd (omega (arith, many))
wrong_count (a ∷ b ∷ d ∷ rest) names many are other =
    let count : length (map string_bytes rest) ≡ length names = length-map rest string_bytes ∙ ap length (sym are) in
    ap (λ t. cond t (replay_form (string_bytes a) (string_bytes b) (string_bytes d) (map string_bytes rest)) no_form)
    (not_between (length (map string_bytes rest)) (λ low high. other (omega (arith, low, count)) (omega (arith, high, count))))

-- ---- all words
parted : (words : List (String Global)) (first : String Global) (others : List (String Global)) → 1 ≤ length words → first ≡ get_or words 0 first
    → others ≡ drop 1 words → map string_bytes words ≡ string_bytes first ∷ map string_bytes others
parted [] first others some is are = absurd (omega (arith, some))
parted (a ∷ rest) first others some is are = λ i. string_bytes (sym is i) ∷ map string_bytes (sym are i)

module _ (words : List (String Global)) (first : String Global) (others : List (String Global)) (some : 1 ≤ length words)
    (is : first ≡ get_or words 0 first) (are : others ≡ drop 1 words) where
  pub first_word : begins_with_room (map string_bytes words) ≡ is_word (codes "room") (string_bytes first)
  first_word = ap begins_with_room (parted words first others some is are)

  -- words that don't begin with `room`, where the tests were of the text of the first one
  module _ (begins : begins_with_room (map string_bytes words) ≡ false) (text : List ℕ) (is_text : text ≡ string_bytes first) where
    room : is_word (codes "room") (string_bytes first) ≡ false
    room = sym first_word ∙ begins

    met : (word : List ℕ) → true ≡ is_word word text → is_word word (string_bytes first) ≡ true
    met word test = ap (is_word word) (sym is_text) ∙ sym test

    unmet : (word : List ℕ) → false ≡ is_word word text → is_word word (string_bytes first) ≡ false
    unmet word test = ap (is_word word) (sym is_text) ∙ sym test

    pub check_words : true ≡ is_word (codes "check") text → form_of (map string_bytes words) ≡ check_among (map string_bytes others)
    unfolding form_of
    check_words check = ap form_of (parted words first others some is are) ∙ (rw (room, met (codes "check") check) refl)

    pub run_words : false ≡ is_word (codes "check") text → true ≡ is_word (codes "replay") text
        → form_of (map string_bytes words) ≡ replay_among (map string_bytes others)
    unfolding form_of
    run_words check replay =
        ap form_of (parted words first others some is are) ∙ (rw (room, unmet (codes "check") check, met (codes "replay") replay) refl)

    module _ (check : false ≡ is_word (codes "check") text) (replay : false ≡ is_word (codes "replay") text) where
      no_check : is_word (codes "check") (string_bytes first) ≡ false
      no_check = unmet (codes "check") check

      no_replay : is_word (codes "replay") (string_bytes first) ≡ false
      no_replay = unmet (codes "replay") replay

      pub made_words : true ≡ is_word (codes "make") text → form_of (map string_bytes words) ≡ make_among (map string_bytes others)
      unfolding form_of
      made_words make = ap form_of (parted words first others some is are) ∙ (rw (room, no_check, no_replay, met (codes "make") make) refl)

      module _ (make : false ≡ is_word (codes "make") text) where
        no_make : is_word (codes "make") (string_bytes first) ≡ false
        no_make = unmet (codes "make") make

        pub drilled_words : true ≡ is_word (codes "drill") text → form_of (map string_bytes words) ≡ drill_among (map string_bytes others)
        unfolding form_of
        drilled_words drill =
            ap form_of (parted words first others some is are) ∙ (rw (room, no_check, no_replay, no_make, met (codes "drill") drill) refl)

        module _ (drill : false ≡ is_word (codes "drill") text) where
          no_drill : is_word (codes "drill") (string_bytes first) ≡ false
          no_drill = unmet (codes "drill") drill

          pub split_words : true ≡ is_word (codes "split") text → form_of (map string_bytes words) ≡ edge_among split_in (map string_bytes others)
          unfolding form_of
          split_words split = ap form_of (parted words first others some is are)
              ∙ (rw (room, no_check, no_replay, no_make, no_drill, met (codes "split") split) refl)

          pub join_words : false ≡ is_word (codes "split") text → true ≡ is_word (codes "join") text
              → form_of (map string_bytes words) ≡ edge_among join_in (map string_bytes others)
          unfolding form_of
          join_words split join = ap form_of (parted words first others some is are)
              ∙ (rw (room, no_check, no_replay, no_make, no_drill, unmet (codes "split") split, met (codes "join") join) refl)

          module _ (split : false ≡ is_word (codes "split") text) (join : false ≡ is_word (codes "join") text) where
            no_edge : (is_word (codes "split") (string_bytes first) ≡ false) × (is_word (codes "join") (string_bytes first) ≡ false)
            no_edge = (unmet (codes "split") split, unmet (codes "join") join)

            pub probed_words : true ≡ is_word (codes "probe") text → form_of (map string_bytes words) ≡ probe_among (map string_bytes others)
            unfolding form_of
            probed_words probe = ap form_of (parted words first others some is are)
                ∙ (rw (room, no_check, no_replay, no_make, no_drill, no_edge.0, no_edge.1, met (codes "probe") probe) refl)

            module _ (probe : false ≡ is_word (codes "probe") text) where
              no_probe : is_word (codes "probe") (string_bytes first) ≡ false
              no_probe = unmet (codes "probe") probe

              pub applied_words : true ≡ is_word (codes "apply") text → form_of (map string_bytes words) ≡ apply_among (map string_bytes others)
              unfolding form_of
              applied_words apply = ap form_of (parted words first others some is are)
                  ∙ (rw (room, no_check, no_replay, no_make, no_drill, no_edge.0, no_edge.1, no_probe, met (codes "apply") apply) refl)

              pub other_words : false ≡ is_word (codes "apply") text → form_of (map string_bytes words) ≡ no_form
              unfolding form_of
              other_words apply = ap form_of (parted words first others some is are)
                  ∙ (rw (room, no_check, no_replay, no_make, no_drill, no_edge.0, no_edge.1, no_probe, unmet (codes "apply") apply) refl)

pub no_words : (words : List (String Global)) → length words < 1 → form_of (map string_bytes words) ≡ no_form
unfolding form_of
no_words [] none = refl
no_words (a ∷ rest) none = absurd (omega (arith, none))

-- ---- words that begin with `room`
pub few_room_words : (words : List (String Global)) → begins_with_room (map string_bytes words) ≡ true → length words < 3
    → form_of (map string_bytes words) ≡ no_form
unfolding form_of
few_room_words [] begins few = refl
few_room_words (a ∷ []) begins few = rw begins refl
few_room_words (a ∷ b ∷ []) begins few = rw begins refl
few_room_words (a ∷ b ∷ d ∷ rest) begins few = absurd (omega (arith, few))

pub room_words : (words : List (String Global)) (cell out : String Global) (names : List (String Global))
    → begins_with_room (map string_bytes words) ≡ true → 3 ≤ length words → cell ≡ get_or words 1 cell → out ≡ get_or words 2 out
    → names ≡ drop 3 words
    → 1 ≤ length names → length names ≤ 16 → form_of (map string_bytes words) ≡ room_form (string_bytes cell) (string_bytes out) (map string_bytes names)
unfolding form_of
room_words [] cell out names begins many is_cell is_out are low high = absurd (omega (arith, many))
room_words (a ∷ []) cell out names begins many is_cell is_out are low high = absurd (omega (arith, many))
room_words (a ∷ b ∷ []) cell out names begins many is_cell is_out are low high = absurd (omega (arith, many))
room_words (a ∷ b ∷ d ∷ rest) cell out names begins many is_cell is_out are low high =
    let count : length (map string_bytes rest) ≡ length names = length-map rest string_bytes ∙ ap length (sym are) in
    let right : is_between 1 16 (length (map string_bytes rest)) ≡ true =
    between (length (map string_bytes rest)) (omega (arith, low, count)) (omega (arith, high, count)) in
    (rw begins refl)
    ∙ ap (λ t. cond t (room_form (string_bytes b) (string_bytes d) (map string_bytes rest)) no_form) right
    ∙ (λ i. room_form (string_bytes (sym is_cell i)) (string_bytes (sym is_out i)) (map string_bytes (sym are i)))

pub wrong_room_count : (words names : List (String Global)) → begins_with_room (map string_bytes words) ≡ true → 3 ≤ length words
    → names ≡ drop 3 words → (1 ≤ length names → length names ≤ 16 → ⊥) → form_of (map string_bytes words) ≡ no_form
unfolding form_of
wrong_room_count [] names begins many are other = absurd (omega (arith, many))
wrong_room_count (a ∷ []) names begins many are other = absurd (omega (arith, many))
wrong_room_count (a ∷ b ∷ []) names begins many are other = absurd (omega (arith, many))
wrong_room_count (a ∷ b ∷ d ∷ rest) names begins many are other =
    let count : length (map string_bytes rest) ≡ length names = length-map rest string_bytes ∙ ap length (sym are) in
    (rw begins refl)
    ∙ ap (λ t. cond t (room_form (string_bytes b) (string_bytes d) (map string_bytes rest)) no_form)
    (not_between (length (map string_bytes rest)) (λ low high. other (omega (arith, low, count)) (omega (arith, high, count))))

-- ---- fewer or more words than a form has
below_two : (among : List (List ℕ) → Form) (others : List (String Global)) → among [] ≡ no_form → ((a : List ℕ) → among (a ∷ []) ≡ no_form)
    → length others < 2 → among (map string_bytes others) ≡ no_form
below_two among [] none one few = none
below_two among (a ∷ []) none one few = one (string_bytes a)
below_two among (a ∷ b ∷ rest) none one few = absurd (omega (arith, few))

above_two : (among : List (List ℕ) → Form) (others : List (String Global)) → 3 ≤ length others
    → ((a b d : List ℕ) (rest : List (List ℕ)) → among (a ∷ b ∷ d ∷ rest) ≡ no_form) → among (map string_bytes others) ≡ no_form
above_two among [] many more = absurd (omega (arith, many))
above_two among (a ∷ []) many more = absurd (omega (arith, many))
above_two among (a ∷ b ∷ []) many more = absurd (omega (arith, many))
above_two among (a ∷ b ∷ d ∷ rest) many more = more (string_bytes a) (string_bytes b) (string_bytes d) (map string_bytes rest)

below_three : (among : List (List ℕ) → Form) (others : List (String Global)) → among [] ≡ no_form → ((a : List ℕ) → among (a ∷ []) ≡ no_form)
    → ((a b : List ℕ) → among (a ∷ b ∷ []) ≡ no_form) → length others < 3 → among (map string_bytes others) ≡ no_form
below_three among [] none one two few = none
below_three among (a ∷ []) none one two few = one (string_bytes a)
below_three among (a ∷ b ∷ []) none one two few = two (string_bytes a) (string_bytes b)
below_three among (a ∷ b ∷ d ∷ rest) none one two few = absurd (omega (arith, few))

above_three : (among : List (List ℕ) → Form) (others : List (String Global)) → 4 ≤ length others
    → ((a b d e : List ℕ) (rest : List (List ℕ)) → among (a ∷ b ∷ d ∷ e ∷ rest) ≡ no_form) → among (map string_bytes others) ≡ no_form
above_three among [] many more = absurd (omega (arith, many))
above_three among (a ∷ []) many more = absurd (omega (arith, many))
above_three among (a ∷ b ∷ []) many more = absurd (omega (arith, many))
above_three among (a ∷ b ∷ d ∷ []) many more = absurd (omega (arith, many))
above_three among (a ∷ b ∷ d ∷ e ∷ rest) many more = more (string_bytes a) (string_bytes b) (string_bytes d) (string_bytes e) (map string_bytes rest)

pub few_words : (others : List (String Global)) → length others < 3 → replay_among (map string_bytes others) ≡ no_form
few_words others few = below_three replay_among others refl (λ a. refl) (λ a b. refl) few

-- ---- the words behind `make` and `drill`
pub fewer_made : (others : List (String Global)) → length others < 2 → make_among (map string_bytes others) ≡ no_form
fewer_made others few = below_two make_among others refl (λ a. refl) few

pub more_made : (others : List (String Global)) → 3 ≤ length others → make_among (map string_bytes others) ≡ no_form
more_made others many = above_two make_among others many (λ a b d rest. refl)

pub two_made : (others : List (String Global)) (size out : String Global) → length others ≡ 2 → size ≡ get_or others 0 size → out ≡ get_or others 1 out
    → make_among (map string_bytes others) ≡ make_of (string_bytes out) (number_up_to 100 (string_bytes size))
two_made others size out two is_size is_out = ap make_among (two_words others size out two is_size is_out)

pub fewer_drilled : (others : List (String Global)) → length others < 2 → drill_among (map string_bytes others) ≡ no_form
fewer_drilled others few = below_two drill_among others refl (λ a. refl) few

pub more_drilled : (others : List (String Global)) → 3 ≤ length others → drill_among (map string_bytes others) ≡ no_form
more_drilled others many = above_two drill_among others many (λ a b d rest. refl)

pub two_drilled : (others : List (String Global)) (size sessions : String Global) → length others ≡ 2 → size ≡ get_or others 0 size
    → sessions ≡ get_or others 1 sessions
    → drill_among (map string_bytes others) ≡ drill_of (number_up_to 100 (string_bytes size)) (number_up_to 16 (string_bytes sessions))
two_drilled others size sessions two is_size is_sessions = ap drill_among (two_words others size sessions two is_size is_sessions)

-- ---- the words behind `split` and `join`
pub few_edge_words : (reading : List (List ℕ) → Option Operation) (others : List (String Global)) → length others < 2
    → edge_among reading (map string_bytes others) ≡ no_form
few_edge_words reading others few = below_two (edge_among reading) others refl (λ a. refl) few

pub edge_words : (reading : List (List ℕ) → Option Operation) (others : List (String Global)) (cell out : String Global)
    (numbers : List (String Global)) → 2 ≤ length others → cell ≡ get_or others 0 cell → out ≡ get_or others 1 out → numbers ≡ drop 2 others
    → edge_among reading (map string_bytes others) ≡ edge_of (string_bytes cell) (string_bytes out) (reading (map string_bytes numbers))
edge_words reading [] cell out numbers many is_cell is_out are = absurd (omega (arith, many))
edge_words reading (a ∷ []) cell out numbers many is_cell is_out are = absurd (omega (arith, many))
edge_words reading (a ∷ b ∷ rest) cell out numbers many is_cell is_out are =
    λ i. edge_of (string_bytes (sym is_cell i)) (string_bytes (sym is_out i)) (reading (map string_bytes (sym are i)))

-- ---- the words behind `probe`
pub fewer_probed : (others : List (String Global)) → length others < 3 → probe_among (map string_bytes others) ≡ no_form
fewer_probed others few = below_three probe_among others refl (λ a. refl) (λ a b. refl) few

pub more_probed : (others : List (String Global)) → 4 ≤ length others → probe_among (map string_bytes others) ≡ no_form
more_probed others many = above_three probe_among others many (λ a b d e rest. refl)

pub three_probed : (others : List (String Global)) (cell y x : String Global) → length others ≡ 3 → cell ≡ get_or others 0 cell
    → y ≡ get_or others 1 y → x ≡ get_or others 2 x
    → probe_among (map string_bytes others) ≡ probe_of (string_bytes cell) (coordinate_of (string_bytes y)) (coordinate_of (string_bytes x))
three_probed others cell y x three is_cell is_y is_x = ap probe_among (three_words others cell y x three is_cell is_y is_x)

-- ---- the words behind `apply`
pub three_applied : (others : List (String Global)) (cell out update : String Global) → length others ≡ 3 → cell ≡ get_or others 0 cell
    → out ≡ get_or others 1 out → update ≡ get_or others 2 update
    → apply_among (map string_bytes others) ≡ apply_form (string_bytes cell) (string_bytes out) (string_bytes update)
three_applied others cell out update three is_cell is_out is_update = ap apply_among (three_words others cell out update three is_cell is_out is_update)

pub fewer_applied : (others : List (String Global)) → length others < 3 → apply_among (map string_bytes others) ≡ no_form
fewer_applied others few = below_three apply_among others refl (λ a. refl) (λ a b. refl) few

pub more_applied : (others : List (String Global)) → 4 ≤ length others → apply_among (map string_bytes others) ≡ no_form
more_applied others many = above_three apply_among others many (λ a b d e rest. refl)
