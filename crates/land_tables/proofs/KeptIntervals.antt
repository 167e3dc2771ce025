-- Intervals of versions stay valid with a change, and a write closes each version that the change ends.
use Rattle.std.proofs.Common.{◌≡◌, true, List, [], ◌∷◌, map as map_list, subst, arith}
use Rattle.std.specs.Prelude.{ℤ, ◌<ℤ◌, ◌≤ℤ◌}
use Rattle.std.proofs.lemmas.Int.{ints}
use Rattle.std.proofs.lemmas.List.Elements.{All-from_recursion, recursion_from_All}
use Rattle.std.proofs.lemmas.List.Sorted.{All-permutation}
use Rattle.std.specs.List.{AllByRecursion}
use Rattle.land_acts.proofs.Accepted.{accepted_once}
use Rattle.land_core.specs.Numbers.{IsMoment, last_moment}
use Rattle.land_core.specs.Soundness.{IsSound}
use Rattle.land_core.specs.declared.change.Change.{Change}
use Rattle.land_keep.proofs.Timelines.{last_is_sound}
use Rattle.land_keep.specs.Machine.{written_timeline}
use Rattle.land_keep.specs.Timeline.{IsIncreasing, IsSoundTimeline, IncreasesFrom, Timeline, last_from, last_register, last_stamp}
use Rattle.land_keep.specs.declared.timeline.Version.{Version}
use Rattle.land_tables.proofs.PutMutations.{accepted_puts}
use Rattle.land_tables.proofs.WrittenTimelines.{first_before_last, stays_last, written_register}
use Rattle.land_tables.specs.Timelines.{RepresentsTimeline, version_moment}
use Rattle.land_tables.specs.Timelines.Writing.{WritesKeepIntervals}
use Rattle.land_tables_history.proofs.Kept.{changes_keep_intervals}
use Rattle.land_tables_history.proofs.MomentOrder.{le_itself}
use Rattle.land_tables_history.proofs.WrittenVersions.{closes_all}
use Rattle.land_tables_history.specs.Changed.{changed_history}
use Rattle.land_tables_history.specs.History.{IsRegisterAt}
use Rattle.land_tables_history.specs.Intervals.{has_intervals}
use Rattle.land_tables_history.specs.Open.{never}
use Rattle.land_tables_history.specs.Written.{written_history}
use Rattle.land_tables_history.specs.declared.history.History.{History}
use Rattle.land_tables_history.specs.declared.moment.Moment.{Moment}

before_never : (t : ℤ) → t ≤ℤ last_moment → t <ℤ never
before_never t le = omega (arith, ints)

all_upto : (v : Version) (vs : Timeline) (t : ℤ) → IncreasesFrom v vs → (last_from v vs).stamp ≤ℤ t → AllByRecursion (λ m. m.stamp ≤ℤ t) (map_list version_moment (v ∷ vs))
all_upto v [] t rises le = (le, tt)
all_upto v (w ∷ ws) t rises le = (first_before_last v (w ∷ ws) t rises le, all_upto w ws t rises.2 le)

-- no moment is after the last stamp
none_after_last : (tl : Timeline) → IsIncreasing tl → AllByRecursion (λ m. m.stamp ≤ℤ last_stamp tl) (map_list version_moment tl)
none_after_last [] rising = absurd rising
none_after_last (v ∷ vs) rising = all_upto v vs (last_from v vs).stamp rising (le_itself (last_from v vs).stamp)

last_is_moment : (tl : Timeline) → IsSoundTimeline tl → IsMoment (last_stamp tl)
last_is_moment [] sound = absurd sound.rising
last_is_moment (v ∷ vs) sound = from v vs sound.moments
  where
    from : (v : Version) (vs : Timeline) → AllByRecursion (λ it. IsMoment it.stamp) (v ∷ vs) → IsMoment (last_from v vs).stamp
    from v [] h = h.0
    from v (w ∷ ws) h = from w ws h.1

module _ (moments : List Moment) (h : History) (tl : Timeline) (sound : IsSoundTimeline tl) (for : RepresentsTimeline moments h tl) where
  listed_by_last : AllByRecursion (λ (m : Moment). m.stamp ≤ℤ last_stamp tl) moments
  listed_by_last =
      let upto = λ (m : Moment). m.stamp ≤ℤ last_stamp tl in
      recursion_from_All upto moments (All-permutation upto (map_list version_moment tl) moments for.moments (All-from_recursion upto (map_list version_moment tl) (none_after_last tl sound.rising)))

  last_stands : IsRegisterAt (last_stamp tl) h (last_register tl)
  last_stands = subst (IsRegisterAt (last_stamp tl) h) (stays_last tl (last_stamp tl) sound.rising (le_itself (last_stamp tl))) (for.stands (last_stamp tl) (last_is_moment tl sound))

  -- a write closes each version that the change ends or replaces
  pub written_as_changed : (change : Change) (stamp : ℤ) → has_intervals moments h ≡ true → written_history (last_register tl).next change stamp h ≡ changed_history (last_register tl).next change stamp h
  written_as_changed change stamp intervals =
      closes_all moments change (last_stamp tl) stamp h (last_register tl) intervals listed_by_last (before_never (last_stamp tl) (last_is_moment tl sound).1) last_stands (last_is_sound tl sound)

pub writes_keep_intervals : WritesKeepIntervals
writes_keep_intervals moments h tl change stamp sound for can written_sound intervals =
    let r = last_register tl in
    changes_keep_intervals moments change (last_stamp tl) stamp h r intervals (listed_by_last moments h tl sound for) can.later (before_never stamp can.moment)
    (accepted_once r change stamp (last_is_sound tl sound) can.made) (accepted_puts r change stamp (last_is_sound tl sound) can.made)
    (last_stands moments h tl sound for)
    (subst IsSound (written_register tl change stamp) (last_is_sound (written_timeline tl change stamp) written_sound))
