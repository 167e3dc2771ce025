-- Laws of validating versions: the result does not depend on their order, and versions that represent a sound
-- timeline are not refused.
use Rattle.std.specs.Prelude.{◌≡◌, List}
use Rattle.std.specs.List.Sorted.{IsPermutation}
use Rattle.land_keep.specs.Timeline.{IsSoundTimeline, Timeline}
use Rattle.land_tables.specs.Timelines.{RepresentsTimeline}
use Rattle.land_tables.specs.Timelines.Laws.{IsReordered}
use Rattle.land_tables_history.specs.Intervals.{has_intervals}
use Rattle.land_tables_history.specs.ValidHistory.{IsValidHistory}
use Rattle.land_tables_history.specs.declared.history.History.{History}
use Rattle.land_tables_history.specs.declared.moment.Moment.{Moment}

-- versions that represent a sound timeline are a valid history
abbrev pub SoundTimelinesAreValid : Type 0
SoundTimelinesAreValid =
    (moments : List Moment) (versions : History) (tl : Timeline) → RepresentsTimeline moments versions tl
    → IsSoundTimeline tl → IsValidHistory moments versions

-- whether intervals are valid does not depend on their order
abbrev pub OrderKeepsIntervals : Type 0
OrderKeepsIntervals =
    (moments others : List Moment) (one other : History) → IsPermutation moments others
    → IsReordered one other → has_intervals others other ≡ has_intervals moments one
