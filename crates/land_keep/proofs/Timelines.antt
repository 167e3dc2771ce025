-- Lemmas on the last version of a timeline and on appended versions.
use Rattle.std.proofs.Common.{◌≡◌, ◌≤◌, ◌-◌, inl, inr, Bool, true, false, cond, [], ◌∷◌, ◌++◌, length, Option, Some, None, refl, ap, ◌∙◌, arith}
use Rattle.std.specs.Prelude.{ℤ, pos, ◌<ℤ◌, ◌≤ℤ◌, int_le, fold, unwrap_or, slice_get, if◌then◌else◌}
use Rattle.std.specs.List.{AllByRecursion}
use Rattle.std.specs.Option.{option_map}
use Rattle.std.proofs.lemmas.Int.{ints}
use Rattle.land_acts.proofs.Accepted.{accepted_sound}
use Rattle.land_core.specs.Changes.{after}
use Rattle.land_core.specs.Numbers.{IsMoment, last_moment}
use Rattle.land_core.specs.Register.{empty_register}
use Rattle.land_core.specs.Soundness.{IsSound}
use Rattle.land_core.specs.declared.register.Register.{Register}
use Rattle.land_keep.specs.Laws.{WritingKeepsSound}
use Rattle.land_keep.specs.Timeline.{Timeline, IsSoundTimeline, IncreasesFrom, last_from, last_register, last_version, last_stamp, register_at}
use Rattle.land_keep.specs.declared.timeline.Version.{Version}
use Rattle.land_rules.specs.Laws.{IsSoundOrNothing}

-- the last item of a list
slice_get-last : (v : Version) (vs : Timeline) → slice_get (v ∷ vs) (length vs) ≡ Some (last_from v vs)
slice_get-last v [] = refl
slice_get-last v (w ∷ ws) = slice_get-last w ws

pub last_is : (tl : Timeline) → slice_get tl (length tl - 1) ≡ last_version tl
last_is [] = refl
last_is (v ∷ vs) = let e : length (v ∷ vs) - 1 ≡ length vs = omega arith in ap (slice_get (v ∷ vs)) e ∙ slice_get-last v vs

all_last : (P : Version → Type 0) (v : Version) (vs : Timeline) → AllByRecursion P (v ∷ vs) → P (last_from v vs)
all_last P v [] h = h.0
all_last P v (w ∷ ws) h = all_last P w ws h.1

all_more : (P : Version → Type 0) (vs : Timeline) (w : Version) → AllByRecursion P vs → P w → AllByRecursion P (vs ++ w ∷ [])
all_more P [] w h last = (last, tt)
all_more P (v ∷ vs) w h last = (h.0, all_more P vs w h.1 last)

rises_more : (v : Version) (vs : Timeline) (w : Version) → IncreasesFrom v vs → (last_from v vs).stamp <ℤ w.stamp → (last_from v vs).register.next ≤ w.register.next → IncreasesFrom v (vs ++ w ∷ [])
rises_more v [] w h later more = (later, more, tt)
rises_more v (u ∷ us) w h later more = (h.0, h.1, rises_more u us w h.2 later more)

pub written_sound : WritingKeepsSound
written_sound [] change stamp sound can = absurd sound.rising
written_sound (v ∷ vs) change stamp sound can =
    let last = last_from v vs in
    let IsSoundVersion : Version → Type 0 = λ it. IsSound it.register in
    let IsAtMoment : Version → Type 0 = λ it. IsMoment it.stamp in
    let kept = accepted_sound last.register change stamp (all_last IsSoundVersion v vs sound.sound) can.made in
    let before : IsMoment last.stamp = all_last IsAtMoment v vs sound.moments in
    let w : Version = record { stamp = stamp; register = after change last.register } in
    record {
      rising = rises_more v vs w sound.rising can.later kept.1;
      moments = all_more IsAtMoment (v ∷ vs) w sound.moments (from_zero last.stamp stamp before.0 can.later, can.moment);
      sound = all_more IsSoundVersion (v ∷ vs) w sound.sound kept.0;
    }
  where
    from_zero : (before later : ℤ) → pos 0 ≤ℤ before → before <ℤ later → pos 0 ≤ℤ later
    from_zero before later h less = omega (arith, ints)

-- the last register of a sound timeline is sound
pub last_is_sound : (tl : Timeline) → IsSoundTimeline tl → IsSound (last_register tl)
last_is_sound [] sound = absurd sound.rising
last_is_sound (v ∷ vs) sound = all_last (λ it. IsSound it.register) v vs sound.sound

-- the last stamp of a sound timeline is a moment
pub last_is_moment : (tl : Timeline) → IsSoundTimeline tl → last_stamp tl ≤ℤ last_moment
last_is_moment [] sound = absurd sound.rising
last_is_moment (v ∷ vs) sound = (all_last (λ it. IsMoment it.stamp) v vs sound.moments).1

-- ---- the register at a moment

-- the register of a version that was found, or that of none
abbrev registered : Option Version → Register
registered found = unwrap_or (option_map (λ (v : Version). v.register) found) empty_register

found_sound : (t : ℤ) (vs : Timeline) (found : Option Version) → IsSoundOrNothing (registered found) → AllByRecursion (λ v. IsSound v.register) vs
    → IsSoundOrNothing (registered (fold (λ found v. if int_le v.stamp t then Some v else found) found vs))
found_sound t [] found whole sound = whole
found_sound t (v ∷ vs) found whole sound = found_sound t vs (cond (int_le v.stamp t) (Some v) found) (here (int_le v.stamp t)) sound.1
  where
    here : (b : Bool) → IsSoundOrNothing (registered (cond b (Some v) found))
    here true = inl sound.0
    here false = whole

-- at each moment the register of a sound timeline is sound, or there is nothing yet
pub sound_or_nothing : (tl : Timeline) (t : ℤ) → IsSoundTimeline tl → IsSoundOrNothing (register_at tl t)
sound_or_nothing tl t sound = found_sound t tl None (inr refl) sound.sound
