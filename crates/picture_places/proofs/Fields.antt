-- The first free field, one field on.
use Rattle.std.proofs.Common.{◌≡◌, ℕ, suc, ◌+◌, ◌-◌, ◌<◌, Bool, true, false, cond, List, Option, Some, refl, ap, ◌∙◌, arith}
use Rattle.std.specs.List.{find, range_with_len}
use Rattle.std.specs.Option.{option_map_or}
use Rattle.picture_places.specs.Labels.{field_behind, free_from, is_free}

found_or : {X : Type 0} (f : ℕ → X) (here : Bool) (k : ℕ) (rest : Option ℕ) (d : X)
    → option_map_or f (cond here (Some k) rest) d ≡ cond here (f k) (option_map_or f rest d)
found_or f true k rest d = refl
found_or f false k rest d = refl

-- the first free field from a number on is that field, or the first free one behind it
pub free_step : (taken : List ℕ) (home k : ℕ) → k < 1080
    → free_from taken home k (1080 - k) ≡
    cond (is_free taken (field_behind home k)) (field_behind home k) (free_from taken home (k + 1) (1080 - (k + 1)))
free_step taken home k within =
    let more : 1080 - k ≡ suc (1080 - (k + 1)) = omega (arith, within) in
    ap (λ many. free_from taken home k many) more
    ∙ found_or (field_behind home) (is_free taken (field_behind home k)) k
    (find (λ other. is_free taken (field_behind home other)) (range_with_len (k + 1) (1080 - (k + 1)))) home

pub free_found : (taken : List ℕ) (home k : ℕ) → k < 1080 → is_free taken (field_behind home k) ≡ true
    → free_from taken home k (1080 - k) ≡ field_behind home k
free_found taken home k within free =
    free_step taken home k within
    ∙ ap (λ here. cond here (field_behind home k) (free_from taken home (k + 1) (1080 - (k + 1)))) free

pub taken_passed : (taken : List ℕ) (home k : ℕ) → k < 1080 → is_free taken (field_behind home k) ≡ false
    → free_from taken home k (1080 - k) ≡ free_from taken home (k + 1) (1080 - (k + 1))
taken_passed taken home k within free =
    free_step taken home k within
    ∙ ap (λ here. cond here (field_behind home k) (free_from taken home (k + 1) (1080 - (k + 1)))) free

pub none_free : (taken : List ℕ) (home k : ℕ) → k ≡ 1080 → free_from taken home k (1080 - k) ≡ home
none_free taken home k end = ap (λ at. free_from taken home at (1080 - at)) end
