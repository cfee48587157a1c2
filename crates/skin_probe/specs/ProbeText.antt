-- The text of what is told of the areas round a point. This project's own text.
use Rattle.std.specs.Prelude.{ℕ, ℤ, List, [], ◌∷◌, ◌++◌, codes}
use Rattle.std.specs.Fmt.{decimal, signed_decimal}
use Rattle.std.specs.List.{flat_map}
use Rattle.geometry_spec.specs.Points.{Point}
use Rattle.text_spec.specs.Lines.{line}
use Rattle.skin_probe.specs.declared.sheet.ProbeSheet.{ProbeSheet}

abbrev pub point_line : Point → List ℕ
point_line at = line (codes "probe") (signed_decimal at.0 ∷ signed_decimal at.1 ∷ [])

-- an area: its sort, its number, and its winding number
abbrev pub wind_line : List ℕ → ℕ × ℤ → List ℕ
wind_line sort wind = line sort (codes "fe" ∷ decimal wind.0 ∷ codes "wind" ∷ signed_decimal wind.1 ∷ [])

abbrev pub sums_line : ℤ × ℤ → List ℕ
sums_line sums = line (codes "sums") (signed_decimal sums.0 ∷ signed_decimal sums.1 ∷ [])

-- the point, the areas of Group 1, those of the coverage, the sums, and how many sides are unbalanced
unfoldable pub probe_text : Point → ProbeSheet → List ℕ
probe_text at sheet =
    point_line at ++ flat_map (wind_line (codes "group1")) sheet.group1 ++ flat_map (wind_line (codes "coverage")) sheet.cover
    ++ sums_line sheet.sums ++ line (codes "unbalanced") (decimal sheet.unbalanced ∷ []) ++ line (codes "end") []
