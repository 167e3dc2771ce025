-- A lift keeps the register sound.
use Rattle.std.proofs.Common.{◌≡◌, true, false, None, refl, sym, ap, ◌∙◌}
use Rattle.std.specs.Option.{option_map_or}
use Rattle.std.proofs.lemmas.Bool.{false≢true}
use Rattle.land_acts.proofs.EndedEntries.{ended_is_sound}
use Rattle.land_acts.specs.Lifting.{lift_change, has_burden, is_burden_class}
use Rattle.land_core.specs.Changes.{after}
use Rattle.land_core.specs.Soundness.{IsSound}
use Rattle.land_core.specs.Units.{type_of}
use Rattle.land_core.specs.declared.act.Lift.{Lift}
use Rattle.land_core.specs.declared.register.Register.{Register}
use Rattle.land_core.specs.declared.rrr.Class.{Class}
use Rattle.land_core.specs.declared.rrr.Class.TheVariants.{Right, Restriction, Responsibility, Mortgage}

-- a burden is not a right
burden_no_right : (class : Class) → is_burden_class class ≡ true → type_of class ≡ None
burden_no_right (Right type share) h = absurd (false≢true h)
burden_no_right (Restriction words) h = refl
burden_no_right (Responsibility words) h = refl
burden_no_right (Mortgage amount currency rank) h = absurd (false≢true h)

pub lifted_is_sound : (r : Register) (it : Lift) → has_burden r it.rrr ≡ true → IsSound r → IsSound (after (lift_change r it) r)
lifted_is_sound r it burden sound =
    ended_is_sound r it.rrr (λ e is. burden_no_right e.class (sym (ap (λ o. option_map_or (λ e. is_burden_class e.class) o false) is) ∙ burden)) sound
