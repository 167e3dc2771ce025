-- The timeline that versions represent.
pub mod Judging
pub mod Laws
pub mod Writing
use Rattle.std.specs.Prelude.{◌≡◌, true, ℤ, int_le, List, [], ◌∷◌, map, if◌then◌else◌}
use Rattle.std.specs.List.Sorted.{IsPermutation}
use Rattle.land_core.specs.Numbers.{IsMoment}
use Rattle.land_keep.specs.Timeline.{Timeline, last_stamp, register_at}
use Rattle.land_keep.specs.declared.timeline.Version.{Version}
use Rattle.land_tables_history.specs.History.{IsRegisterAt, register_of_history}
use Rattle.land_tables_history.specs.Open.{have_ended}
use Rattle.land_tables_history.specs.declared.history.History.{History}
use Rattle.land_tables_history.specs.declared.moment.Moment.{Moment}

-- the moment of a version of the timeline: its stamp, and the number that the next new object takes after it
abbrev pub version_moment : Version → Moment
version_moment v = record { stamp = v.stamp; next = v.register.next }

-- inserts a moment into a list sorted by stamp, before moments that are not earlier
abbrev pub insert_moment : Moment → List Moment → List Moment
insert_moment m [] = m ∷ []
insert_moment m (n ∷ ns) = if int_le m.stamp n.stamp then m ∷ n ∷ ns else n ∷ insert_moment m ns

-- moments sorted by stamp
abbrev pub sorted_moments : List Moment → List Moment
sorted_moments [] = []
sorted_moments (m ∷ ms) = insert_moment m (sorted_moments ms)

-- the version of the timeline that begins at a moment: the register of the versions at that moment
abbrev pub version_of : History → Moment → Version
version_of versions m = record { stamp = m.stamp; register = register_of_history m.stamp versions m.next }

-- the timeline that versions represent, if they represent one: for each moment, sorted by stamp, the register
-- of the versions at that moment
abbrev pub timeline_of : List Moment → History → Timeline
timeline_of moments versions = map (version_of versions) (sorted_moments moments)

-- versions represent a timeline: the moments are its stamps with its next numbers, in any order; at each
-- moment the current versions are its register, each record once; and every end is open or at most the last
-- stamp
pub record RepresentsTimeline (listed : List Moment) (history : History) (tl : Timeline) : Type 0 where
  pub moments : IsPermutation (map version_moment tl) listed
  pub stands : (t : ℤ) → IsMoment t → IsRegisterAt t history (register_at tl t)
  pub ended : have_ended (last_stamp tl) history ≡ true
