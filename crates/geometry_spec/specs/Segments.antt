-- What two closed segments have in common, in whole numbers and without division. This project's own rule.
use Rattle.std.specs.Prelude.{◌≡◌, ℕ, ◌<◌, ◌≤◌, ℤ, pos, ◌+ℤ◌, ◌-ℤ◌, ◌*ℤ◌}
use Rattle.geometry_spec.specs.Points.{Point}
use Rattle.geometry_spec.specs.declared.segment.MeetCase.{MeetCase}
use Rattle.geometry_spec.specs.declared.segment.MeetCase.TheVariants.{Apart, At, Along}

-- d times the coordinate that lies m/d of the way from a to b
abbrev pub scaled_between : ℤ → ℤ → ℕ → ℕ → ℤ
scaled_between a b d m = (pos d *ℤ a) +ℤ (pos m *ℤ (b -ℤ a))

-- w lies on the closed segment p q: it is the point m/d of the way from p to q
pub record LiesOn (w p q : Point) : Type 0 where
  pub d : ℕ
  pub m : ℕ
  pub positive : 0 < d
  pub within : m ≤ d
  pub same_y : scaled_between p.0 q.0 d m ≡ pos d *ℤ w.0
  pub same_x : scaled_between p.1 q.1 d m ≡ pos d *ℤ w.1

-- the closed segments p q and r s have a common point, m/d of the way from p to q and n/d of the way from r to s
pub record CommonPoint (p q r s : Point) : Type 0 where
  pub d : ℕ
  pub m : ℕ
  pub n : ℕ
  pub positive : 0 < d
  pub on_first : m ≤ d
  pub on_second : n ≤ d
  pub same_y : scaled_between p.0 q.0 d m ≡ scaled_between r.0 s.0 d n
  pub same_x : scaled_between p.1 q.1 d m ≡ scaled_between r.1 s.1 d n

-- two common points are one: m/d and n/e of the way from p to q are equal after multiplying out
pub record IsSamePoint {p q r s : Point} (v w : CommonPoint p q r s) : Type 0 where
  pub y : pos w.d *ℤ scaled_between p.0 q.0 v.d v.m ≡ pos v.d *ℤ scaled_between p.0 q.0 w.d w.m
  pub x : pos w.d *ℤ scaled_between p.1 q.1 v.d v.m ≡ pos v.d *ℤ scaled_between p.1 q.1 w.d w.m

-- apart: no common point; at: exactly one; along: at least two different ones
abbrev pub SegmentMeeting : Point → Point → Point → Point → MeetCase → Type 0
SegmentMeeting p q r s Apart = ¬ (CommonPoint p q r s)
SegmentMeeting p q r s At = CommonPoint p q r s × ((v w : CommonPoint p q r s) → IsSamePoint v w)
SegmentMeeting p q r s Along = (v : CommonPoint p q r s) × (w : CommonPoint p q r s) × ¬ (IsSamePoint v w)
