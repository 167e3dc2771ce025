-- Laws of versions and the timelines that they represent.
use Rattle.std.specs.Prelude.{◌≡◌, true, ℤ, List, Some}
use Rattle.std.specs.List.{All}
use Rattle.std.specs.List.Sorted.{IsPermutation}
use Rattle.land_core.specs.Numbers.{IsMoment}
use Rattle.land_keep.specs.Timeline.{IsSoundTimeline, Timeline, last_register, last_stamp, register_at}
use Rattle.land_tables.specs.Timelines.{RepresentsTimeline, timeline_of}
use Rattle.land_tables_history.specs.History.{register_of_history}
use Rattle.land_tables_history.specs.Intervals.{has_intervals}
use Rattle.land_tables_history.specs.ValidHistory.{IsValidHistory}
use Rattle.land_tables_history.specs.Moments.{last, next_number_at}
use Rattle.land_tables_history.specs.declared.history.History.{History}
use Rattle.land_tables_history.specs.declared.moment.Moment.{Moment}

-- versions that represent a sound timeline represent no other: it is the one that they yield
abbrev pub HistoriesRepresentOneTimeline : Type 0
HistoriesRepresentOneTimeline =
    (moments : List Moment) (versions : History) (tl : Timeline) → RepresentsTimeline moments versions tl
    → IsSoundTimeline tl → timeline_of moments versions ≡ tl

-- versions in another order
pub record IsReordered (one other : History) : Type 0 where
  pub parties : IsPermutation one.parties other.parties
  pub roles : IsPermutation one.roles other.roles
  pub members : IsPermutation one.members other.members
  pub units : IsPermutation one.units other.units
  pub parcels : IsPermutation one.parcels other.parcels
  pub rrrs : IsPermutation one.rrrs other.rrrs
  pub sources : IsPermutation one.sources other.sources
  pub mutations : IsPermutation one.mutations other.mutations
  pub namings : IsPermutation one.namings other.namings
  pub mandates : IsPermutation one.mandates other.mandates

-- versions represent the same timeline in any order
abbrev pub OrderDoesNotMatter : Type 0
OrderDoesNotMatter =
    (moments others : List Moment) (one other : History) (tl : Timeline) → RepresentsTimeline moments one tl
    → IsPermutation moments others → IsReordered one other → RepresentsTimeline others other tl

-- the current versions at a moment, with the next number of the latest moment up to it, are the timeline's
-- register at that time
abbrev pub ReadingIsTheRegister : Type 0
ReadingIsTheRegister =
    (moments : List Moment) (versions : History) (tl : Timeline) (t : ℤ)
    → RepresentsTimeline moments versions tl → IsSoundTimeline tl → IsMoment t
    → register_of_history t versions (next_number_at moments t) ≡ register_at tl t

-- the latest moment has the timeline's last stamp and the next number of its last register
abbrev pub LastMomentIsTheLastStamp : Type 0
LastMomentIsTheLastStamp =
    (moments : List Moment) (versions : History) (tl : Timeline)
    → RepresentsTimeline moments versions tl → IsSoundTimeline tl
    → last moments ≡ Some (record { stamp = last_stamp tl; next = (last_register tl).next })

-- the versions of a valid history with valid intervals represent a sound timeline: the one that they yield
abbrev pub ValidHistoriesRepresentTimelines : Type 0
ValidHistoriesRepresentTimelines =
    (moments : List Moment) (versions : History) → All (λ m. IsMoment m.stamp) moments
    → has_intervals moments versions ≡ true → IsValidHistory moments versions
    → RepresentsTimeline moments versions (timeline_of moments versions)
    × IsSoundTimeline (timeline_of moments versions)
