-- A discharge has the same refusals and the same change on the slice as on the register.
use Rattle.std.proofs.Common.{◌≡◌, ℕ, Bool, true, false, cond, not, ◌&&◌, Option, Some, None, List, [], ◌∷◌, refl, sym, ap, ◌∙◌}
use Rattle.std.specs.Prelude.{ℤ, is_none, is_some, nat_eq}
use Rattle.std.specs.Option.{option_map_or}
use Rattle.std.specs.FinMap as map
use Rattle.std.proofs.lemmas.Bool.{and_parts}
use Rattle.land_acts.proofs.MortgageSlices.{AgreeOnUnit}
use Rattle.land_acts.proofs.NumberTests.{at_kept}
use Rattle.land_acts.specs.Mutations.Discharging.{discharge_change, discharge_refusals, is_entry_of_unit, is_mortgage_at}
use Rattle.land_acts.specs.Mutations.Planning.{first_refusal_of}
use Rattle.land_acts.specs.declared.mutations.refusal.Refusal.{Refusal}
use Rattle.land_acts.specs.declared.mutations.refusal.Refusal.TheVariants.{NoSuchUnit, NoSuchRight, NotMortgage, ClockOut}
use Rattle.land_core.specs.Entries.{has}
use Rattle.land_core.specs.Units.{rank_of}
use Rattle.land_core.specs.declared.content.Discharge.{Discharge}
use Rattle.land_core.specs.declared.register.Register.{Register}
use Rattle.land_core.specs.declared.rrr.RrrRecord.{RrrRecord}

-- whether a mortgage of the unit exists at a number
abbrev has_mortgage_in : Register → (unit number : ℕ) → Bool
has_mortgage_in r unit n = option_map_or (λ e. nat_eq e.unit unit && is_some (rank_of e.class)) (map.get r.rrrs n) false

mortgage_in : (r : Register) (unit n : ℕ) → has_mortgage_in r unit n ≡ (is_entry_of_unit r unit n && is_mortgage_at r n)
mortgage_in r unit n = of (map.get r.rrrs n)
  where
    of : (o : Option RrrRecord) → option_map_or (λ e. nat_eq e.unit unit && is_some (rank_of e.class)) o false ≡ (option_map_or (λ e. nat_eq e.unit unit) o false && option_map_or (λ e. is_some (rank_of e.class)) o false)
    of None = refl
    of (Some e) = refl

-- a refusal after another is read only if the condition of the other one is false
second_line : (first second : Refusal) (lines : List (Refusal × Bool)) (b c d : Bool) → (b && c) ≡ (b && d)
    → first_refusal_of ((first, not b) ∷ (second, not c) ∷ lines) ≡ first_refusal_of ((first, not b) ∷ (second, not d) ∷ lines)
second_line first second lines true c d same = ap (λ x. first_refusal_of ((second, not x) ∷ lines)) same
second_line first second lines false c d same = refl

module _ (s r : Register) (it : Discharge) (agree : AgreeOnUnit s r it.unit) where
  entry_agrees : is_entry_of_unit s it.unit it.mortgage ≡ is_entry_of_unit r it.unit it.mortgage
  entry_agrees =
      ap (λ m. option_map_or (λ e. nat_eq e.unit it.unit) (map.get m it.mortgage) false) agree.entries
      ∙ at_kept r.rrrs agree.kept (λ e. nat_eq e.unit it.unit) it.mortgage (λ e here. agree.keeps it.mortgage e here)

  mortgage_agrees : has_mortgage_in s it.unit it.mortgage ≡ has_mortgage_in r it.unit it.mortgage
  mortgage_agrees =
      ap (λ m. option_map_or (λ e. nat_eq e.unit it.unit && is_some (rank_of e.class)) (map.get m it.mortgage) false) agree.entries
      ∙ at_kept r.rrrs agree.kept (λ e. nat_eq e.unit it.unit && is_some (rank_of e.class)) it.mortgage
      (λ e passes. agree.keeps it.mortgage e (and_parts (nat_eq e.unit it.unit) (is_some (rank_of e.class)) passes).0)

  -- the entry may belong to another unit, and then be in only one of the two registers; an earlier refusal
  -- applies then
  pub discharge_refusal_agrees : (stamp : Option ℤ) → first_refusal_of (discharge_refusals s it stamp) ≡ first_refusal_of (discharge_refusals r it stamp)
  discharge_refusal_agrees stamp =
      ap (λ b. first_refusal_of ((NoSuchUnit, not b) ∷ (NoSuchRight, not (is_entry_of_unit s it.unit it.mortgage)) ∷ (NotMortgage, not (is_mortgage_at s it.mortgage)) ∷ last)) agree.stands
      ∙ ap (λ b. first_refusal_of ((NoSuchUnit, not (has r.units it.unit)) ∷ (NoSuchRight, not b) ∷ (NotMortgage, not (is_mortgage_at s it.mortgage)) ∷ last)) entry_agrees
      ∙ ap (cond (not (has r.units it.unit)) (Some NoSuchUnit))
      (second_line NoSuchRight NotMortgage last (is_entry_of_unit r it.unit it.mortgage) (is_mortgage_at s it.mortgage) (is_mortgage_at r it.mortgage) same)
    where
      last : List (Refusal × Bool)
      last = (ClockOut, is_none stamp) ∷ []

      same : (is_entry_of_unit r it.unit it.mortgage && is_mortgage_at s it.mortgage) ≡ (is_entry_of_unit r it.unit it.mortgage && is_mortgage_at r it.mortgage)
      same =
          ap (λ b. b && is_mortgage_at s it.mortgage) (sym entry_agrees)
          ∙ sym (mortgage_in s it.unit it.mortgage)
          ∙ mortgage_agrees
          ∙ mortgage_in r it.unit it.mortgage

  pub discharge_change_agrees : discharge_change s it ≡ discharge_change r it
  discharge_change_agrees = rw agree.next refl
