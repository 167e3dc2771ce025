-- Laws of writing: changing the versions changes their timeline, and intervals stay valid.
use Rattle.std.specs.Prelude.{◌≡◌, true, ℤ, List, ◌∷◌}
use Rattle.land_core.specs.declared.change.Change.{Change}
use Rattle.land_keep.specs.Keeping.{CanWrite}
use Rattle.land_keep.specs.Machine.{written_timeline}
use Rattle.land_keep.specs.Timeline.{IsSoundTimeline, Timeline, last_register}
use Rattle.land_tables.specs.Timelines.{RepresentsTimeline}
use Rattle.land_tables_history.specs.Changed.{changed_history}
use Rattle.land_tables_history.specs.Intervals.{has_intervals}
use Rattle.land_tables_history.specs.declared.history.History.{History}
use Rattle.land_tables_history.specs.declared.moment.Moment.{Moment}

-- if versions represent a timeline, the versions with a permitted change and its moment represent the
-- timeline with the change
abbrev pub WritesRepresentTimelines : Type 0
WritesRepresentTimelines =
    (moments : List Moment) (versions : History) (tl : Timeline) (change : Change) (stamp : ℤ)
    → IsSoundTimeline tl → RepresentsTimeline moments versions tl → CanWrite tl change stamp
    → RepresentsTimeline (record { stamp = stamp; next = change.next } ∷ moments)
    (changed_history (last_register tl).next change stamp versions) (written_timeline tl change stamp)

-- if the intervals were valid, they are valid with the change and its moment
abbrev pub WritesKeepIntervals : Type 0
WritesKeepIntervals =
    (moments : List Moment) (versions : History) (tl : Timeline) (change : Change) (stamp : ℤ)
    → IsSoundTimeline tl → RepresentsTimeline moments versions tl → CanWrite tl change stamp
    → IsSoundTimeline (written_timeline tl change stamp) → has_intervals moments versions ≡ true
    → has_intervals (record { stamp = stamp; next = change.next } ∷ moments)
    (changed_history (last_register tl).next change stamp versions) ≡ true
