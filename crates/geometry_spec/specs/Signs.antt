-- The meeting of two segments, and lying on one, computed by the signs of determinants.
use Rattle.std.specs.Prelude.{Bool, ℤ, pos, int_lt, ◌&&◌, ◌||◌, if◌then◌else◌}
use Rattle.std.specs.declared.cmp.Ordering.{Ordering}
use Rattle.std.specs.declared.cmp.Ordering.TheVariants.{Less, Equal, Greater}
use Rattle.std.specs.Ordering.{int_eq, is_le, ord_min, ord_max}
use Rattle.geometry_spec.specs.Points.{Point, point_cmp, orientation_of}
use Rattle.geometry_spec.specs.declared.segment.MeetCase.{MeetCase}
use Rattle.geometry_spec.specs.declared.segment.MeetCase.TheVariants.{Apart, At, Along}

-- both positive or both negative
abbrev pub have_one_sign : ℤ → ℤ → Bool
have_one_sign a b = (int_lt (pos 0) a && int_lt (pos 0) b) || (int_lt a (pos 0) && int_lt b (pos 0))

-- both zero
abbrev pub are_zero : ℤ → ℤ → Bool
are_zero a b = int_eq a (pos 0) && int_eq b (pos 0)

-- the earlier and the later of two points in the order of points
abbrev pub earlier : Point → Point → Point
earlier p q = ord_min point_cmp p q

abbrev pub later : Point → Point → Point
later p q = ord_max point_cmp p q

-- what lies from one point of a line on to another: more than one point, one, or none
abbrev pub case_from_to : Ordering → MeetCase
case_from_to Less = Along
case_from_to Equal = At
case_from_to Greater = Apart

-- on one line: the common points lie from the later of the first ends to the earlier of the last ends
abbrev pub meeting_on_line : Point → Point → Point → Point → MeetCase
meeting_on_line p q r s = case_from_to (point_cmp (later (earlier p q) (earlier r s)) (earlier (later p q) (later r s)))

-- apart where one segment lies strictly on one side of the other's line, at one point where they cross or touch
unfoldable pub meeting_of : Point → Point → Point → Point → MeetCase
meeting_of p q r s =
    if have_one_sign (orientation_of p q r) (orientation_of p q s) then Apart
    else if have_one_sign (orientation_of r s p) (orientation_of r s q) then Apart
    else if are_zero (orientation_of p q r) (orientation_of p q s) then meeting_on_line p q r s
    else At

-- w is on the line of p and q, and neither before the earlier end nor after the later one
unfoldable pub lies_on : Point → Point → Point → Bool
lies_on w p q = int_eq (orientation_of p q w) (pos 0) && (is_le (point_cmp (earlier p q) w) && is_le (point_cmp w (later p q)))
