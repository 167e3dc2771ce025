-- Versions represent one timeline only, and its registers are read from them.
use Rattle.std.proofs.Common.{◌≡◌, Bool, true, false, cond, List, [], ◌∷◌, map, Option, Some, None, refl, sym, ap, ◌∙◌, ℕ}
use Rattle.std.specs.Prelude.{ℤ, ◌≤ℤ◌, int_le, fold, unwrap_or, if◌then◌else◌}
use Rattle.std.specs.List.{AllByRecursion}
use Rattle.std.specs.Option.{option_map}
use Rattle.land_core.specs.Laws.{SoundnessByNumber}
use Rattle.land_core.specs.Numbers.{IsMoment}
use Rattle.land_core.specs.Register.{empty_register}
use Rattle.land_core.specs.Soundness.{IsSound}
use Rattle.land_core.specs.declared.register.Register.{Register}
use Rattle.land_keep.specs.Timeline.{IsIncreasing, IsSoundTimeline, IncreasesFrom, Timeline, register_at}
use Rattle.land_keep.specs.declared.timeline.Version.{Version}
use Rattle.land_tables.proofs.Latest.{last_is_last, next_is}
use Rattle.land_tables.proofs.Members.{no_members, sound_members}
use Rattle.land_tables.proofs.Sorting.{is_late, timeline_order}
use Rattle.land_tables.specs.Timelines.{RepresentsTimeline, version_moment, version_of}
use Rattle.land_tables.specs.Timelines.Laws.{LastMomentIsTheLastStamp, ReadingIsTheRegister, HistoriesRepresentOneTimeline}
use Rattle.land_tables_history.proofs.MomentOrder.{le_itself, le_then_lt, le_true, lt_is_le}
use Rattle.land_tables_history.proofs.Registers.{stood}
use Rattle.land_tables_history.specs.Groups.{HaveMembers}
use Rattle.land_tables_history.specs.History.{register_of_history}
use Rattle.land_tables_history.specs.Moments.{next_number_at}
use Rattle.land_tables_history.specs.declared.history.History.{History}
use Rattle.land_tables_history.specs.declared.moment.Moment.{Moment}

-- the register of a version, or the empty register
abbrev pub registered : Option Version → Register
registered found = unwrap_or (option_map (λ (v : Version). v.register) found) empty_register

-- the last version whose stamp is at most t, or a default
abbrev pub found_at : ℤ → Option Version → Timeline → Option Version
found_at t found vs = fold (λ found v. if int_le v.stamp t then Some v else found) found vs

-- ---- each register of a timeline is sound, or empty

members_found : SoundnessByNumber → (t : ℤ) (vs : Timeline) (found : Option Version) → HaveMembers (registered found).members → AllByRecursion (λ v. IsSound v.register) vs
    → HaveMembers (registered (found_at t found vs)).members
members_found look_ups t [] found have sound = have
members_found look_ups t (v ∷ vs) found have sound = members_found look_ups t vs (cond (int_le v.stamp t) (Some v) found) (here (int_le v.stamp t)) sound.1
  where
    here : (b : Bool) → HaveMembers (registered (cond b (Some v) found)).members
    here true = sound_members look_ups v.register sound.0
    here false = have

pub have_members : SoundnessByNumber → (tl : Timeline) (t : ℤ) → IsSoundTimeline tl → HaveMembers (register_at tl t).members
have_members look_ups tl t sound = members_found look_ups t tl None no_members sound.sound

-- ---- at a stamp the timeline has the register of that stamp

-- no version with a later stamp is selected
pub none_later : (t : ℤ) (found : Option Version) (v : Version) (vs : Timeline) → t ≤ℤ v.stamp → IncreasesFrom v vs → found_at t found vs ≡ found
none_later t found v [] least rises = refl
none_later t found v (w ∷ ws) least rises =
    let before = le_then_lt t v.stamp w.stamp least rises.0 in
    ap (λ b. found_at t (cond b (Some w) found) ws) (is_late w.stamp t before) ∙ none_later t found w ws (lt_is_le t w.stamp before) rises.2

-- each version is selected at its stamp
abbrev Found : Timeline → Version → Type 0
Found vs w = (found : Option Version) → found_at w.stamp found vs ≡ Some w

-- one version more before versions of which one is selected
found_after : (v : Version) (vs ws : Timeline) → AllByRecursion (Found vs) ws → AllByRecursion (Found (v ∷ vs)) ws
found_after v vs [] h = tt
found_after v vs (w ∷ ws) h = (λ found. h.0 (cond (int_le v.stamp w.stamp) (Some v) found), found_after v vs ws h.1)

first_found : (v : Version) (vs : Timeline) → IncreasesFrom v vs → Found (v ∷ vs) v
first_found v vs rises found = ap (λ b. found_at v.stamp (cond b (Some v) found) vs) (le_true v.stamp v.stamp (le_itself v.stamp)) ∙ none_later v.stamp (Some v) v vs (le_itself v.stamp) rises

each_found : (v : Version) (vs : Timeline) → IncreasesFrom v vs → AllByRecursion (Found (v ∷ vs)) (v ∷ vs)
each_found v [] rises = (first_found v [] rises, tt)
each_found v (w ∷ ws) rises = (first_found v (w ∷ ws) rises, found_after v (w ∷ ws) (w ∷ ws) (each_found w ws rises.2))

stamps_found : (tl : Timeline) → IsIncreasing tl → AllByRecursion (Found tl) tl
stamps_found [] rises = absurd rises
stamps_found (v ∷ vs) rises = each_found v vs rises

-- ---- reading

same_next : (r : Register) (n : ℕ) → n ≡ r.next → record r { next = n } ≡ r
same_next r n e = ap (λ (k : ℕ). let it : Register = record r { next = k } in it) e

pub stands_read : SoundnessByNumber → (moments : List Moment) (versions : History) (tl : Timeline) (t : ℤ) (n : ℕ)
    → RepresentsTimeline moments versions tl → IsSoundTimeline tl → IsMoment t → n ≡ (register_at tl t).next → register_of_history t versions n ≡ register_at tl t
stands_read look_ups moments versions tl t n stands sound is e =
    stood t versions n (register_at tl t) (have_members look_ups tl t sound) (stands.stands t is) ∙ same_next (register_at tl t) n e

pub reads : SoundnessByNumber → ReadingIsTheRegister
reads look_ups moments versions tl t stands sound is =
    stands_read look_ups moments versions tl t (next_number_at moments t) stands sound is (next_is tl moments t sound.rising stands.moments)

pub last_is : LastMomentIsTheLastStamp
last_is moments versions tl stands sound = last_is_last tl moments sound.rising stands.moments

-- ---- one timeline

pub stands_for_one : SoundnessByNumber → HistoriesRepresentOneTimeline
stands_for_one look_ups moments versions tl stands sound =
    ap (map (version_of versions)) (timeline_order tl moments sound.rising stands.moments) ∙ each tl (stamps_found tl sound.rising) sound.moments
  where
    same_version : (v : Version) (r : Register) → r ≡ v.register → let it : Version = record { stamp = v.stamp; register = r } in it ≡ v
    same_version v r e = ap (λ (k : Register). let it : Version = record { stamp = v.stamp; register = k } in it) e

    one : (v : Version) → Found tl v → IsMoment v.stamp → version_of versions (version_moment v) ≡ v
    one v here is =
        let at : register_at tl v.stamp ≡ v.register = ap registered (here None) in
        same_version v (register_of_history v.stamp versions v.register.next)
        (stands_read look_ups moments versions tl v.stamp v.register.next stands sound is (sym (ap (λ (r : Register). r.next) at)) ∙ at)

    each : (vs : Timeline) → AllByRecursion (Found tl) vs → AllByRecursion (λ v. IsMoment v.stamp) vs → map (version_of versions) (map version_moment vs) ≡ vs
    each [] here is = refl
    each (v ∷ vs) here is = ap (λ w. w ∷ map (version_of versions) (map version_moment vs)) (one v here.0 is.0) ∙ ap (λ ws. v ∷ ws) (each vs here.1 is.1)
