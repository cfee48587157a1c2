-- Entries as bytes: what they are made of can be read off them.
use Rattle.std.proofs.Common.{◌≡◌, ℕ, ◌+◌, ◌<◌, ◌≤◌, ◌^◌, zero, suc, List, [], ◌∷◌, ◌++◌, length, take, drop, get_or, refl, sym, ap, subst, ◌∙◌, arith}
use Rattle.std.proofs.Common.{append_assoc, length-append, length-drop, length-take, take-append-drop}
use Rattle.std.specs.Int.{w32, from_le_bytes, to_le_bytes}
use Rattle.std.proofs.lemmas.List.{take_at, drop_at}
use Rattle.std.proofs.lemmas.Nat.{from_le_bytes-to_le_bytes_4, le_bytes_4}
use Rattle.book_journal.specs.Cuts.{HasNoEntry, IsEntryOf}
use Rattle.book_journal.specs.Entries.{entry_part, four_bytes, marked}

pub length-four : (n : ℕ) → length (four_bytes n) ≡ 4
unfolding four_bytes
length-four n = refl

read_four : (n : ℕ) → n < 2 ^ 32 → from_le_bytes w32 (four_bytes n) ≡ n
unfolding four_bytes
read_four n fits = from_le_bytes-to_le_bytes_4 n fits

-- fronts of one length are alike, and so is what follows them
pub same_fronts : (a b x y : List ℕ) → length a ≡ length b → a ++ x ≡ b ++ y → (a ≡ b) × (x ≡ y)
same_fronts a b x y long e = (
  sym (take_at a x (length b) long) ∙ ap (λ (l : List ℕ). take (length b) l) e ∙ take_at b y (length b) refl,
  sym (drop_at a x (length b) long) ∙ ap (λ (l : List ℕ). drop (length b) l) e ∙ drop_at b y (length b) refl,
)

pub four_same : (m n : ℕ) → m < 2 ^ 32 → n < 2 ^ 32 → (x y : List ℕ) → four_bytes m ++ x ≡ four_bytes n ++ y → (m ≡ n) × (x ≡ y)
four_same m n m_fits n_fits x y e =
    let both = same_fronts (four_bytes m) (four_bytes n) x y (length-four m ∙ sym (length-four n)) e in
    (sym (read_four m m_fits) ∙ ap (λ (l : List ℕ). from_le_bytes w32 l) both.0 ∙ read_four n n_fits, both.1)

-- the parts of an entry one behind the other
pub part_split : (desk : ℕ) (text x : List ℕ) → entry_part desk text ++ x ≡ four_bytes desk ++ (four_bytes (length text) ++ (text ++ x))
part_split desk text x =
    append_assoc (four_bytes desk ++ four_bytes (length text)) text x ∙ append_assoc (four_bytes desk) (four_bytes (length text)) (text ++ x)

pub part_same : (desk other : ℕ) (text words x y : List ℕ) → desk < 2 ^ 32 → other < 2 ^ 32 → length text < 2 ^ 32 → length words < 2 ^ 32
    → entry_part desk text ++ x ≡ entry_part other words ++ y → (desk ≡ other) × (text ≡ words) × (x ≡ y)
part_same desk other text words x y desk_fits other_fits text_fits words_fits e =
    let split = sym (part_split desk text x) ∙ e ∙ part_split other words y in
    let desks = four_same desk other desk_fits other_fits (four_bytes (length text) ++ (text ++ x)) (four_bytes (length words) ++ (words ++ y)) split in
    let sizes = four_same (length text) (length words) text_fits words_fits (text ++ x) (words ++ y) desks.1 in
    let texts = same_fronts text words x y sizes.0 sizes.1 in
    (desks.0, texts.0, texts.1)

pub marked_same : (desk other : ℕ) (text words x y : List ℕ) → desk < 2 ^ 32 → other < 2 ^ 32 → length text < 2 ^ 32 → length words < 2 ^ 32
    → marked desk text ++ x ≡ marked other words ++ y → (desk ≡ other) × (text ≡ words) × (x ≡ y)
marked_same desk other text words x y desk_fits other_fits text_fits words_fits e =
    part_same desk other text words x y desk_fits other_fits text_fits words_fits (ap (λ (l : List ℕ). drop 1 l) e)

pub length-part : (desk : ℕ) (text : List ℕ) → length (entry_part desk text) ≡ 8 + length text
length-part desk text =
    omega (
      arith,
      length-append (four_bytes desk ++ four_bytes (length text)) text,
      length-append (four_bytes desk) (four_bytes (length text)),
      length-four desk,
      length-four
          (length text),
    )

front_fits : (bs : List ℕ) (n : ℕ) → ((i : ℕ) → get_or bs i 0 < 256) → (i : ℕ) → get_or (take n bs) i 0 < 256
front_fits bs zero fits i = omega arith
front_fits [] (suc n) fits i = omega arith
front_fits (b ∷ bs) (suc n) fits zero = fits 0
front_fits (b ∷ bs) (suc n) fits (suc i) = front_fits bs n (λ k. fits (suc k)) i

-- four bytes in front, read as a number, are its four bytes
pub cut_four : (bs number rest : List ℕ) (n : ℕ) → ((i : ℕ) → get_or bs i 0 < 256) → number ≡ take 4 bs → rest ≡ drop 4 bs → length rest + 4 ≡ length bs
    → n ≡ from_le_bytes w32 number → bs ≡ four_bytes n ++ rest
unfolding four_bytes
cut_four bs number rest n fits front behind long is =
    let short : length number ≡ 4 = omega (arith, ap length front, length-take 4 bs, long) in
    let bytes = subst (λ (l : List ℕ). (i : ℕ) → get_or l i 0 < 256) (sym front) (front_fits bs 4 fits) in
    sym (take-append-drop 4 bs) ∙ ap (λ (l : List ℕ). l ++ drop 4 bs) (sym front ∙ sym (le_bytes_4 number n short bytes is))
    ∙ ap (λ (l : List ℕ). to_le_bytes w32 n ++ l) (sym behind)

-- bytes that begin with a mark and are too short for the rest have no entry
pub short_no_entry : (bytes : List ℕ) → length bytes < 10 → HasNoEntry bytes
short_no_entry bytes short desk text rest entry =
    omega (arith, short, ap length entry.bytes_are, length-append (marked desk text) rest, length-part desk text, entry.more)

pub unmarked_no_entry : (bytes : List ℕ) (mark : ℕ) (behind : List ℕ) → bytes ≡ mark ∷ behind → (mark ≡ 1 → ⊥) → HasNoEntry bytes
unmarked_no_entry bytes mark behind is other desk text rest entry =
    let same : mark ∷ behind ≡ 1 ∷ (entry_part desk text ++ rest) = sym is ∙ entry.bytes_are in
    other cc

-- nor have those whose text leaves no byte behind it
pub cut_no_entry : (bytes behind after last : List ℕ) (desk size : ℕ) → desk < 2 ^ 32 → size < 2 ^ 32 → bytes ≡ 1 ∷ behind → behind ≡ four_bytes desk ++ after
    → after ≡ four_bytes size ++ last → length last ≤ size → HasNoEntry bytes
cut_no_entry bytes behind after last desk size desk_fits size_fits is behind_is after_is short other text rest entry =
    let whole : entry_part other text ++ rest ≡ behind = ap (λ (l : List ℕ). drop 1 l) (sym entry.bytes_are ∙ is) in
    let desks = four_same other desk entry.desk_fits desk_fits (four_bytes (length text) ++ (text ++ rest)) after
    (sym (part_split other text rest) ∙ whole ∙ behind_is) in
    let sizes = four_same (length text) size entry.text_fits size_fits (text ++ rest) last (desks.1 ∙ after_is) in
    omega (arith, sizes.0, ap length sizes.1, length-append text rest, entry.more, short)

pub cut_entry : (bytes behind after last text rest : List ℕ) (desk size : ℕ) → desk < 2 ^ 32 → size < 2 ^ 32 → bytes ≡ 1 ∷ behind → behind ≡ four_bytes desk
    ++ after
    → after ≡ four_bytes size ++ last → size < length last → text ≡ take size last → rest ≡ drop size last → IsEntryOf bytes desk text rest
cut_entry bytes behind after last text rest desk size desk_fits size_fits is behind_is after_is more text_is rest_is =
    let sized : length text ≡ size = omega (arith, ap length text_is, length-take size last, more) in
    let whole : last ≡ text ++ rest = sym (take-append-drop size last) ∙ ap (λ (l : List ℕ). l ++ drop size last) (sym text_is) ∙ ap
    (λ (l : List ℕ). text ++ l) (sym rest_is) in
    record {
      bytes_are = is
          ∙ ap (λ (l : List ℕ). 1 ∷ l) (behind_is
          ∙ ap (λ (l : List ℕ). four_bytes desk ++ l) (after_is ∙ ap (λ (n : ℕ). four_bytes n ++ last) (sym sized)
          ∙ ap (λ (l : List ℕ). four_bytes (length text) ++ l) whole)
          ∙ sym (part_split desk text rest));
      desk_fits = desk_fits;
      text_fits = omega (arith, sized, size_fits);
      more = omega (arith, ap length rest_is, length-drop size last, more);
    }
