-- Simple rings (OGC 06-103r4, section 6.1.7: a linear ring is closed and simple; 6.1.11: it runs
-- counterclockwise round a polygon)
use Rattle.std.specs.Prelude.{◌≡◌, ℕ, ◌+◌, ◌<◌, ◌==◌, ◌&&◌, if◌then◌else◌, List, map, length, Option, Some}
use Rattle.std.specs.Prelude.{None, pos, MatchOption, slice_index_or}
use Rattle.land_shape.specs.declared.plane.Point.{Point}
use Rattle.land_shape.specs.Place.{Place, area_of, ring_edges}
use Rattle.land_shape.specs.Segment.{HaveCommonPoint, MeetOnlyAt}

-- the place of a point of the code
abbrev pub place_of : Point → Place
place_of p = record { x = p.x; y = p.y }

abbrev pub places : List Point → List Place
places ps = map place_of ps

abbrev pub place_at : List Place → ℕ → Place
place_at ps i = slice_index_or ps i (record { x = pos 0; y = pos 0 })

-- the place after the one at i in a ring
abbrev pub next_place_at : List Place → ℕ → Place
next_place_at ps i = if i + 1 == length ps then place_at ps 0 else place_at ps (i + 1)

-- the corner at which the edges from i and from a later j are joined, in a ring of n corners, if they are
-- neighbours: consecutive edges, and the last edge and the first
abbrev pub joint : ℕ → ℕ → ℕ → Option ℕ
joint n i j = if j == i + 1 then Some j else if i == 0 && j + 1 == n then Some 0 else None

-- the edges from i and from a later j have no common point except their joint
unfoldable pub MeetOnlyAtJoint : List Place → ℕ → ℕ → Type 0
MeetOnlyAtJoint ps i j = MatchOption (joint (length ps) i j)
    (¬ HaveCommonPoint (place_at ps i) (next_place_at ps i) (place_at ps j) (next_place_at ps j))
    (λ k. MeetOnlyAt (place_at ps k) (place_at ps i) (next_place_at ps i) (place_at ps j)
    (next_place_at ps j))

-- no two different edges have a common point except the joint of neighbours
abbrev pub AllMeetOnlyAtJoints : List Place → Type 0
AllMeetOnlyAtJoints ps = (i j : ℕ) → i < j → j < length ps → MeetOnlyAtJoint ps i j

-- each edge has two different ends
abbrev pub HaveLength : List Place → Type 0
HaveLength ps = (i : ℕ) → i < length ps → ¬ (place_at ps i ≡ next_place_at ps i)

pub record IsSimple (ring : List Place) : Type 0 where
  pub long : HaveLength ring
  pub apart : AllMeetOnlyAtJoints ring
  pub wide : ¬ (area_of (ring_edges ring) ≡ pos 0)
