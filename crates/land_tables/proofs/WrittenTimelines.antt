-- A timeline from its last stamp on, and a timeline with a change written.
use Rattle.std.proofs.Common.{◌≡◌, true, cond, [], ◌∷◌, ◌++◌, None, Some, refl, ap, ◌∙◌, arith}
use Rattle.std.specs.Prelude.{ℤ, pos, ◌<ℤ◌, ◌≤ℤ◌, int_le, fold, unwrap_or, if◌then◌else◌}
use Rattle.std.specs.Option.{option_map}
use Rattle.std.proofs.lemmas.Int.{ints}
use Rattle.land_core.specs.Changes.{after}
use Rattle.land_core.specs.Register.{empty_register}
use Rattle.land_core.specs.declared.change.Change.{Change}
use Rattle.land_keep.specs.Machine.{written_timeline}
use Rattle.land_keep.specs.Timeline.{IsIncreasing, IncreasesFrom, Timeline, last_from, last_register, last_stamp, last_version, register_at}
use Rattle.land_keep.specs.declared.timeline.Version.{Version}

is_reached : (t stamp : ℤ) → stamp ≤ℤ t → int_le stamp t ≡ true
is_reached t stamp le = grind (arith, ints)

earlier : (a b c : ℤ) → a <ℤ b → b ≤ℤ c → a ≤ℤ c
earlier a b c less le = omega (arith, ints)

pub first_before_last : (v : Version) (vs : Timeline) (t : ℤ) → IncreasesFrom v vs → (last_from v vs).stamp ≤ℤ t → v.stamp ≤ℤ t
first_before_last v [] t rises le = le
first_before_last v (w ∷ ws) t rises le = earlier v.stamp w.stamp t rises.0 (first_before_last w ws t rises.2 le)

-- at and after the last stamp the last version is selected
found_last : (v : Version) (vs : Timeline) (t : ℤ) → IncreasesFrom v vs → (last_from v vs).stamp ≤ℤ t
    → fold (λ found v. if int_le v.stamp t then Some v else found) (Some v) vs ≡ Some (last_from v vs)
found_last v [] t rises le = refl
found_last v (w ∷ ws) t rises le =
    ap (λ b. fold (λ found v. if int_le v.stamp t then Some v else found) (cond b (Some w) (Some v)) ws) (is_reached t w.stamp (first_before_last w ws t rises.2 le))
    ∙ found_last w ws t rises.2 le

pub stays_last : (tl : Timeline) (t : ℤ) → IsIncreasing tl → last_stamp tl ≤ℤ t → register_at tl t ≡ last_register tl
stays_last [] t rising le = absurd rising
stays_last (v ∷ vs) t rising le =
    ap (λ b. unwrap_or (option_map (λ v. v.register) (fold (λ found v. if int_le v.stamp t then Some v else found) (cond b (Some v) None) vs)) empty_register)
    (is_reached t v.stamp (first_before_last v vs t rising le))
    ∙ ap (λ o. unwrap_or (option_map (λ v. v.register) o) empty_register) (found_last v vs t rising le)

last_after : (tl : Timeline) (w : Version) → last_version (tl ++ w ∷ []) ≡ Some w
last_after [] w = refl
last_after (v ∷ vs) w = from v vs
  where
    from : (v : Version) (vs : Timeline) → Some (last_from v (vs ++ w ∷ [])) ≡ Some w
    from v [] = refl
    from v (u ∷ us) = from u us

-- the last stamp is that of the change
pub written_last : (tl : Timeline) (change : Change) (stamp : ℤ) → last_stamp (written_timeline tl change stamp) ≡ stamp
written_last tl change stamp = ap (λ o. unwrap_or (option_map (λ (v : Version). v.stamp) o) (pos 0)) (last_after tl (record { stamp = stamp; register = after change (last_register tl) }))

-- and the last register has the change
pub written_register : (tl : Timeline) (change : Change) (stamp : ℤ) → last_register (written_timeline tl change stamp) ≡ after change (last_register tl)
written_register tl change stamp = ap (λ o. unwrap_or (option_map (λ (v : Version). v.register) o) empty_register) (last_after tl (record { stamp = stamp; register = after change (last_register tl) }))
