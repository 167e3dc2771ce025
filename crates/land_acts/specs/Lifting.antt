-- The act `lift`: a restriction or a responsibility ends.
use Rattle.std.specs.Prelude.{ℕ, ℤ, Bool, true, false, not, List, [], ◌∷◌, Option, is_none}
use Rattle.std.specs.Option.{option_map_or}
use Rattle.std.specs.FinMap as map
use Rattle.land_acts.specs.Mutations.Planning.{done_on}
use Rattle.land_acts.specs.declared.mutations.refusal.Refusal.{Refusal}
use Rattle.land_acts.specs.declared.mutations.refusal.Refusal.TheVariants.{NoSuchRight, ClockOut}
use Rattle.land_core.specs.Changes.{no_put, no_ended}
use Rattle.land_core.specs.declared.act.Lift.{Lift}
use Rattle.land_core.specs.declared.change.Change.{Change}
use Rattle.land_core.specs.declared.change.Done.{Done}
use Rattle.land_core.specs.declared.register.Register.{Register}
use Rattle.land_core.specs.declared.rrr.Class.{Class}
use Rattle.land_core.specs.declared.rrr.Class.TheVariants.{Right, Restriction, Responsibility, Mortgage}

-- whether an entry is a restriction or a responsibility
abbrev pub is_burden_class : Class → Bool
is_burden_class (Right type share) = false
is_burden_class (Restriction words) = true
is_burden_class (Responsibility words) = true
is_burden_class (Mortgage amount currency rank) = false

-- whether such an entry exists at a number
abbrev pub has_burden : Register → ℕ → Bool
has_burden r n = option_map_or (λ e. is_burden_class e.class) (map.get r.rrrs n) false

-- the refusals with their conditions, in ascending order
abbrev pub lift_refusals : Register → Lift → Option ℤ → List (Refusal × Bool)
lift_refusals r it stamp = (NoSuchRight, not (has_burden r it.rrr)) ∷ (ClockOut, is_none stamp) ∷ []

-- the entry ends
abbrev pub lift_change : Register → Lift → Change
lift_change r it = record {
  put = no_put;
  ended = record no_ended { rrrs = it.rrr ∷ [] };
  next = r.next;
}

-- the receipt is about the entry
abbrev pub lift_done : Lift → ℤ → Done
lift_done it stamp = done_on it.rrr stamp
