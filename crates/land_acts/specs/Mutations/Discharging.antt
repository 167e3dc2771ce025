-- The content `discharge`: a mortgage ends.
use Rattle.std.specs.Prelude.{ℕ, ℤ, Bool, false, not, nat_eq, List, [], ◌∷◌, Option, is_none, is_some}
use Rattle.std.specs.Option.{option_map_or}
use Rattle.std.specs.FinMap as map
use Rattle.land_acts.specs.declared.mutations.refusal.Refusal.{Refusal}
use Rattle.land_acts.specs.declared.mutations.refusal.Refusal.TheVariants.{NoSuchUnit, NoSuchRight}
use Rattle.land_acts.specs.declared.mutations.refusal.Refusal.TheVariants.{NotMortgage, ClockOut}
use Rattle.land_core.specs.Changes.{no_put, no_ended}
use Rattle.land_core.specs.Entries.{has}
use Rattle.land_core.specs.Units.{rank_of}
use Rattle.land_core.specs.declared.change.Change.{Change}
use Rattle.land_core.specs.declared.content.Discharge.{Discharge}
use Rattle.land_core.specs.declared.register.Register.{Register}

-- whether an entry of this unit exists at a number
abbrev pub is_entry_of_unit : Register → (unit number : ℕ) → Bool
is_entry_of_unit r unit n = option_map_or (λ e. nat_eq e.unit unit) (map.get r.rrrs n) false

-- whether a mortgage exists at a number
abbrev pub is_mortgage_at : Register → ℕ → Bool
is_mortgage_at r n = option_map_or (λ e. is_some (rank_of e.class)) (map.get r.rrrs n) false

-- the refusals with their conditions, in ascending order
abbrev pub discharge_refusals : Register → Discharge → Option ℤ → List (Refusal × Bool)
discharge_refusals r it stamp =
    (NoSuchUnit, not (has r.units it.unit))
    ∷ (NoSuchRight, not (is_entry_of_unit r it.unit it.mortgage))
    ∷ (NotMortgage, not (is_mortgage_at r it.mortgage))
    ∷ (ClockOut, is_none stamp)
    ∷ []

-- the mortgage ends
abbrev pub discharge_change : Register → Discharge → Change
discharge_change r it = record {
  put = no_put;
  ended = record no_ended { rrrs = it.mortgage ∷ [] };
  next = r.next;
}
