-- A discharge keeps a register sound: a mortgage ends.
use Rattle.std.proofs.Common.{◌≡◌, true, false, None, refl, sym, ap, ◌∙◌}
use Rattle.std.specs.Prelude.{is_some}
use Rattle.std.specs.Option.{option_map_or}
use Rattle.std.proofs.lemmas.Bool.{false≢true}
use Rattle.land_acts.proofs.EndedEntries.{ended_is_sound}
use Rattle.land_acts.specs.Mutations.Discharging.{discharge_change, is_mortgage_at}
use Rattle.land_core.specs.Changes.{after, NamesKeysOnce}
use Rattle.land_core.specs.Soundness.{IsSound}
use Rattle.land_core.specs.Units.{rank_of, type_of}
use Rattle.land_core.specs.declared.content.Discharge.{Discharge}
use Rattle.land_core.specs.declared.register.Register.{Register}
use Rattle.land_core.specs.declared.rrr.Class.{Class}
use Rattle.land_core.specs.declared.rrr.Class.TheVariants.{Right, Restriction, Responsibility, Mortgage}

-- a mortgage is not a right
mortgage_no_right : (class : Class) → is_some (rank_of class) ≡ true → type_of class ≡ None
mortgage_no_right (Right type share) h = absurd (false≢true h)
mortgage_no_right (Restriction words) h = refl
mortgage_no_right (Responsibility words) h = refl
mortgage_no_right (Mortgage amount currency rank) h = refl

pub discharged_is_sound : (r : Register) (it : Discharge) → IsSound r → is_mortgage_at r it.mortgage ≡ true → IsSound (after (discharge_change r it) r)
discharged_is_sound r it sound mortgage =
    ended_is_sound r it.mortgage (λ e is. mortgage_no_right e.class (sym (ap (λ o. option_map_or (λ e. is_some (rank_of e.class)) o false) is) ∙ mortgage)) sound

pub discharge_names_once : (r : Register) (it : Discharge) → NamesKeysOnce (discharge_change r it)
discharge_names_once r it = record { parties = refl; roles = refl; members = refl; units = refl; parcels = refl; rrrs = refl; sources = refl; mutations = refl; mandates = refl }
