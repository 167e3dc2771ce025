-- Versions with a change represent the timeline with the change written.
use Rattle.std.proofs.Common.{◌≡◌, true, List, [], ◌∷◌, ◌++◌, map as map_list, refl, sym, ap, subst, arith, IsPermutation}
use Rattle.std.specs.Prelude.{ℤ, ◌<ℤ◌, ◌≤ℤ◌}
use Rattle.std.proofs.lemmas.Int.{by_lt_z, ints}
use Rattle.std.proofs.lemmas.List.Sorted.{IsPermutation-cons, IsPermutation-to_front, IsPermutation-trans}
use Rattle.land_acts.proofs.Accepted.{accepted_once}
use Rattle.land_core.specs.Changes.{after}
use Rattle.land_core.specs.Numbers.{IsMoment, last_moment}
use Rattle.land_core.specs.declared.change.Change.{Change}
use Rattle.land_keep.proofs.Past as past
use Rattle.land_keep.proofs.Timelines.{last_is_sound}
use Rattle.land_keep.specs.Keeping.{CanWrite}
use Rattle.land_keep.specs.Machine.{written_timeline}
use Rattle.land_keep.specs.Timeline.{IsSoundTimeline, Timeline, last_register, last_stamp, register_at}
use Rattle.land_keep.specs.declared.timeline.Version.{Version}
use Rattle.land_tables.proofs.PutMutations.{accepted_puts}
use Rattle.land_tables.proofs.WrittenTimelines.{stays_last, written_last}
use Rattle.land_tables.specs.Timelines.{RepresentsTimeline, version_moment}
use Rattle.land_tables.specs.Timelines.Writing.{WritesRepresentTimelines}
use Rattle.land_tables_history.proofs.Changes as changes
use Rattle.land_tables_history.specs.Changed.{changed_history}
use Rattle.land_tables_history.specs.History.{IsRegisterAt}
use Rattle.land_tables_history.specs.Open.{have_ended, never}
use Rattle.land_tables_history.specs.declared.history.History.{History}
use Rattle.land_tables_history.specs.declared.moment.Moment.{Moment}

moments_more : (tl : Timeline) (w : Version) → map_list version_moment (tl ++ w ∷ []) ≡ map_list version_moment tl ++ version_moment w ∷ []
moments_more [] w = refl
moments_more (v ∷ vs) w = ap (λ l. version_moment v ∷ l) (moments_more vs w)

-- a moment comes before the open end
before_never : (t : ℤ) → t ≤ℤ last_moment → t <ℤ never
before_never t le = omega (arith, ints)

last_before : (last stamp t : ℤ) → last <ℤ stamp → stamp ≤ℤ t → last ≤ℤ t
last_before last stamp t less le = omega (arith, ints)

module _ (moments : List Moment) (h : History) (tl : Timeline) (change : Change) (stamp : ℤ) (sound : IsSoundTimeline tl) (for : RepresentsTimeline moments h tl) (can : CanWrite tl change stamp) where
  moments_stand : IsPermutation (map_list version_moment (written_timeline tl change stamp)) (record { stamp = stamp; next = change.next } ∷ moments)
  moments_stand =
      let w : Version = record { stamp = stamp; register = after change (last_register tl) } in
      subst (λ l. IsPermutation l (version_moment w ∷ moments)) (sym (moments_more tl w))
      (IsPermutation-trans (map_list version_moment tl ++ version_moment w ∷ []) (version_moment w ∷ map_list version_moment tl) (version_moment w ∷ moments)
      (IsPermutation-to_front (map_list version_moment tl) (version_moment w)) (IsPermutation-cons (version_moment w) (map_list version_moment tl) moments for.moments))

  abbrev after_it : History
  after_it = changed_history (last_register tl).next change stamp h

  past_part : (t : ℤ) → IsMoment t → t <ℤ stamp → IsRegisterAt t after_it (register_at (written_timeline tl change stamp) t)
  past_part t moment less =
      subst (IsRegisterAt t after_it) (sym (past.past_stays tl change stamp t less))
      (changes.past_stands (last_register tl).next change stamp t h (register_at tl t) less (before_never t moment.1) (for.stands t moment))

  new_part : (t : ℤ) → IsMoment t → stamp ≤ℤ t → IsRegisterAt t after_it (register_at (written_timeline tl change stamp) t)
  new_part t moment since =
      let last = last_is_sound tl sound in
      subst (IsRegisterAt t after_it) (sym (past.change_stands tl change stamp t since))
      (changes.change_stands change (last_stamp tl) stamp t h (last_register tl) for.ended can.later since (before_never t moment.1)
      (accepted_once (last_register tl) change stamp last can.made) (accepted_puts (last_register tl) change stamp last can.made)
      (subst (IsRegisterAt t h) (stays_last tl t sound.rising (last_before (last_stamp tl) stamp t can.later since)) (for.stands t moment)))

  stands_for : RepresentsTimeline (record { stamp = stamp; next = change.next } ∷ moments) after_it (written_timeline tl change stamp)
  stands_for = record {
    moments = moments_stand;
    stands = λ t moment. by_lt_z t stamp (past_part t moment) (new_part t moment);
    ended = subst (λ (last : ℤ). have_ended last after_it ≡ true) (sym (written_last tl change stamp)) (changes.changed_have_ended (last_register tl).next change (last_stamp tl) stamp h for.ended can.later);
  }

pub writes_represent_timelines : WritesRepresentTimelines
writes_represent_timelines = stands_for
