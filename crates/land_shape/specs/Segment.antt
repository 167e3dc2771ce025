use Rattle.std.specs.Prelude.{◌≡◌, ℕ, ℤ, pos, ◌+ℤ◌, ◌-ℤ◌, ◌*ℤ◌, ◌≤◌}
use Rattle.land_shape.specs.Place.{Place}

-- on one axis, q times the place that lies s parts of q of the way from a to b
abbrev pub along : ℕ → ℕ → ℤ → ℤ → ℤ
along q s a b = pos q *ℤ a +ℤ pos s *ℤ (b -ℤ a)

-- With both sides divided by q, the place s/q of the way from a to b is that r/q of the way from c to d.
pub record AreOnePlace (q s r : ℕ) (a b c d : Place) : Type 0 where
  pub positive : 1 ≤ q
  pub on_first : s ≤ q
  pub on_second : r ≤ q
  pub same_x : along q s a.x b.x ≡ along q r c.x d.x
  pub same_y : along q s a.y b.y ≡ along q r c.y d.y

-- The closed segments a b and c d have a common point.
pub record HaveCommonPoint (a b c d : Place) : Type 0 where
  pub q : ℕ
  pub s : ℕ
  pub r : ℕ
  pub one : AreOnePlace q s r a b c d

-- The common points of the closed segments a b and c d are all at this place.
pub record MeetOnlyAt (place a b c d : Place) : Type 0 where
  pub x_there : (q s r : ℕ) → AreOnePlace q s r a b c d → along q s a.x b.x ≡ pos q *ℤ place.x
  pub y_there : (q s r : ℕ) → AreOnePlace q s r a b c d → along q s a.y b.y ≡ pos q *ℤ place.y
