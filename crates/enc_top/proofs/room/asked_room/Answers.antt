use Rattle.std.proofs.Common.{◌≡◌, ◌-◌, ◌<◌, ◌≤◌, ◌∙◌, true, false, ⊎_elim, arith, drop, length, map, refl, string_bytes, subst, sym, take}
use Rattle.std.proofs.lemmas.Bool.Decides.{nat_tests}
use Rattle.enc_top.specs.Outcome.{IsAskedBy}
use Rattle.enc_top.specs.Words.{form_of, room_form}
use Rattle.enc_top.proofs.FormWords.{behind, few_room_words, room_words, wrong_room_count}
use Rattle.enc_top.proofs.room.asked_room.Goals as goal

pub returns-in_default-clause-asked : goal.returns-in_default-clause-asked
returns-in_default-clause-asked g c = (few_room_words c.args.words.now c.requires c.in_default.len_below, refl)

pub returns-then-is_empty-clause-asked : goal.returns-then-is_empty-clause-asked
returns-then-is_empty-clause-asked g c =
    let words = c.args.words.now in
    let names = take (length words - 3) (drop 3 words) in
    let test = c.is_empty.ensures in
    let none = wrong_room_count words names c.requires c.in-len3-up.len_at_least (behind 3 words)
    (λ low high. ⊎_elim (λ (empty : c.is_empty.result ≡ true). grind (arith, nat_tests))
    (λ (many : (c.is_empty.result ≡ false) × (16 < length names)). let over = many.1 in omega (arith, high, over)) c.then-is_empty.either) in
    (none, refl)

pub returns-clause-asked : goal.returns-clause-asked
returns-clause-asked g c =
    let words = c.args.words.now in
    let names = take (length words - 3) (drop 3 words) in
    let low : 1 ≤ length names = (let empty = c.is_empty.ensures in let not = c.if-is_empty.false in grind (arith, nat_tests)) in
    let high : length names ≤ 16 = (let few = c.if-names-gt-SESSION_LIMIT.false in omega (arith, few)) in
    let is : form_of (map string_bytes words) ≡ room_form c.as_str.result.now c.as_str-2.result.now (map string_bytes names) =
    room_words words c.cell-item.result c.out-item.result names c.requires c.in-len3-up.len_at_least c.cell-item.is c.out-item.is (behind 3 words) low high
    ∙ (λ i. room_form (sym c.as_str.ensures.value i) (sym c.as_str-2.ensures.value i) (map string_bytes names)) in
    subst (λ f. IsAskedBy (g.M.Meet.sticks c.args.meet.now) f (g.H.Shelf.files c.args.shelf.now) (g.H.Shelf.read_faults c.args.shelf.now)
    (g.H.Shelf.read_faults c.room_on.new.shelf) c.room_on.result) (sym is) c.room_on.ensures.asked
