-- The register through time: stamps, each with the register from that moment on (LADM: VersionedObject).
use Rattle.std.specs.Prelude.{◌≤◌, List, [], ◌∷◌, Option, Some, None, ℤ, pos, ◌<ℤ◌, int_le, fold, unwrap_or}
use Rattle.std.specs.Prelude.{if◌then◌else◌}
use Rattle.std.specs.Option.{option_map}
use Rattle.std.specs.List.{AllByRecursion}
use Rattle.land_core.specs.Numbers.{IsMoment}
use Rattle.land_core.specs.Register.{empty_register, new_register}
use Rattle.land_core.specs.Soundness.{IsSound}
use Rattle.land_core.specs.declared.register.Register.{Register}
use Rattle.land_keep.specs.declared.timeline.Version.{Version}

abbrev pub Timeline : Type 0
Timeline = List Version

-- a new timeline: the new register from moment 0
abbrev pub new_timeline : Timeline
new_timeline = record { stamp = pos 0; register = new_register } ∷ []

-- the last register whose stamp is at most t
abbrev pub version_at : Timeline → ℤ → Option Version
version_at tl t = fold (λ found v. if int_le v.stamp t then Some v else found) None tl

-- the register at t; empty before the first stamp
abbrev pub register_at : Timeline → ℤ → Register
register_at tl t = unwrap_or (option_map (λ v. v.register) (version_at tl t)) empty_register

-- the last of a version and the versions after it
abbrev pub last_from : Version → Timeline → Version
last_from v [] = v
last_from v (w ∷ ws) = last_from w ws

abbrev pub last_version : Timeline → Option Version
last_version [] = None
last_version (v ∷ vs) = Some (last_from v vs)

-- the stamp of the last accepted change
abbrev pub last_stamp : Timeline → ℤ
last_stamp tl = unwrap_or (option_map (λ v. v.stamp) (last_version tl)) (pos 0)

-- the register now
abbrev pub last_register : Timeline → Register
last_register tl = unwrap_or (option_map (λ v. v.register) (last_version tl)) empty_register

-- from a version on, stamps are strictly increasing and the next numbers never decrease
abbrev pub IncreasesFrom : Version → Timeline → Type 0
IncreasesFrom before [] = Unit {0}
IncreasesFrom before (v ∷ vs) = (before.stamp <ℤ v.stamp) × (before.register.next ≤ v.register.next)
    × IncreasesFrom v vs

-- the timeline has a version, and stamps are strictly increasing
abbrev pub IsIncreasing : Timeline → Type 0
IsIncreasing [] = ⊥
IsIncreasing (v ∷ vs) = IncreasesFrom v vs

-- a sound timeline has a version, strictly increasing stamps that are moments, next numbers that never
-- decrease, and sound registers
pub record IsSoundTimeline (tl : Timeline) : Type 0 where
  pub rising : IsIncreasing tl
  pub moments : AllByRecursion (λ v. IsMoment v.stamp) tl
  pub sound : AllByRecursion (λ v. IsSound v.register) tl
