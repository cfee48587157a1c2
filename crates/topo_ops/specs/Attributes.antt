-- Attributes that are the same (S-57 Part 3, 7.7.1.2): the same codes and values in the same order.
use Rattle.std.specs.Prelude.{◌==◌, ◌&&◌, Bool, List}
use Rattle.std.specs.Str.{bytes_eq}
use Rattle.std.specs.Cmp.Lexicographic.{pointwise}
use Rattle.s57_types.specs.declared.record.Attr.{Attr}

abbrev pub same_attribute : Attr → Attr → Bool
same_attribute a b = (a.code == b.code) && bytes_eq a.value b.value

abbrev pub same_attributes : List Attr → List Attr → Bool
same_attributes xs ys = pointwise same_attribute xs ys
