-- The conditions that hold if no refusal applies to a transfer, a mortgage or a discharge.
use Rattle.std.proofs.Common.{◌≡◌, Bool, true, false, ◌||◌, not, Option, Some, None, [], ◌∷◌, refl, sym, ap, ◌∙◌}
use Rattle.std.specs.Prelude.{ℤ, is_none}
use Rattle.std.specs.Option.{option_map_or}
use Rattle.std.proofs.lemmas.Bool.{false≢true, not-false, or_parts}
use Rattle.land_acts.proofs.Refusals.{none_hold}
use Rattle.land_acts.specs.Mutations.ByContent.{content_refusals}
use Rattle.land_acts.specs.Mutations.Discharging.{is_entry_of_unit, is_mortgage_at}
use Rattle.land_acts.specs.Mutations.Planning.{would_exceed_entries, first_refusal_of, runs_out_of_numbers}
use Rattle.land_acts.specs.Mutations.Transferring.{are_too_fine, are_too_many, has_right_where, right_at, gives_to_itself, is_too_large}
use Rattle.land_acts.specs.declared.mutations.refusal.Refusal.TheVariants.{NoSuchUnit, NoSuchRight, NoSuchParty, ShareTooLarge, SharesTooFine, TooMany, NotBank, NotMortgage, ClockOut, SameParty}
use Rattle.land_acts.specs.declared.mutations.transfer.HeldRight.{HeldRight}
use Rattle.land_core.specs.Entries.{has}
use Rattle.land_core.specs.Register.{holds}
use Rattle.land_core.specs.declared.content.Content.TheVariants as content
use Rattle.land_core.specs.declared.content.Discharge.{Discharge}
use Rattle.land_core.specs.declared.content.Mortgage.{Mortgage}
use Rattle.land_core.specs.declared.content.Transfer.{Transfer}
use Rattle.land_core.specs.declared.register.Register.{Register}
use Rattle.land_core.specs.declared.role.Role.TheVariants.{Bank}

pub record IsUnrefusedMove (r : Register) (it : Transfer) : Type 0 where
  pub from : HeldRight
  pub held : right_at r it.unit it.right ≡ Some from
  pub unit : has r.units it.unit ≡ true
  pub receiver : has r.parties it.receiver ≡ true
  pub not_large : is_too_large r it from ≡ false
  pub not_fine : are_too_fine r it from ≡ false
  pub not_many : are_too_many r it from ≡ false
  pub other : gives_to_itself it from ≡ false

-- a condition on the right that is false, if the right exists
fails_at : (r : Register) (it : Transfer) (test : HeldRight → Bool) (from : HeldRight) → right_at r it.unit it.right ≡ Some from → has_right_where test r it ≡ false → test from ≡ false
fails_at r it test from e fails = sym (ap (λ o. option_map_or test o false) e) ∙ fails

pub unrefused_move : (r : Register) (it : Transfer) (stamp : Option ℤ) → first_refusal_of (content_refusals r (content.Transfer it) stamp) ≡ None → IsUnrefusedMove r it
unrefused_move r it stamp none =
    let fails = none_hold ((NoSuchUnit, not (has r.units it.unit)) ∷ (NoSuchRight, is_none (right_at r it.unit it.right)) ∷ (NoSuchParty, not (has r.parties it.receiver))
    ∷ (ShareTooLarge, has_right_where (is_too_large r it) r it) ∷ (SharesTooFine, has_right_where (are_too_fine r it) r it) ∷ (TooMany, has_right_where (are_too_many r it) r it)
    ∷ (ClockOut, is_none stamp) ∷ (SameParty, has_right_where (gives_to_itself it) r it) ∷ []) none in
    let unit = fails.0 in
    let right = fails.1.0 in
    let party = fails.1.1.0 in
    let large = fails.1.1.1.0 in
    let fine = fails.1.1.1.1.0 in
    let many = fails.1.1.1.1.1.0 in
    let itself = fails.1.1.1.1.1.1.1.0 in
    found (not-false _ unit) right (not-false _ party) large fine many itself (right_at r it.unit it.right) refl
  where
    found : has r.units it.unit ≡ true → is_none (right_at r it.unit it.right) ≡ false → has r.parties it.receiver ≡ true → has_right_where (is_too_large r it) r it ≡ false
        → has_right_where (are_too_fine r it) r it ≡ false → has_right_where (are_too_many r it) r it ≡ false → has_right_where (gives_to_itself it) r it ≡ false
        → (o : Option HeldRight) → right_at r it.unit it.right ≡ o → IsUnrefusedMove r it
    found unit right party large fine many itself None e = absurd (false≢true (sym right ∙ ap is_none e))
    found unit right party large fine many itself (Some from) e = record {
      from = from;
      held = e;
      unit = unit;
      receiver = party;
      not_large = fails_at r it (is_too_large r it) from e large;
      not_fine = fails_at r it (are_too_fine r it) from e fine;
      not_many = fails_at r it (are_too_many r it) from e many;
      other = fails_at r it (gives_to_itself it) from e itself;
    }

-- ---- mortgages and discharges to which no refusal applies

pub record IsUnrefusedMortgage (r : Register) (it : Mortgage) : Type 0 where
  pub unit : has r.units it.unit ≡ true
  pub creditor : has r.parties it.creditor ≡ true
  pub room : runs_out_of_numbers r 1 ≡ false
  pub few : would_exceed_entries r it.unit 1 ≡ false

pub unrefused_mortgage : (r : Register) (it : Mortgage) (stamp : Option ℤ) → first_refusal_of (content_refusals r (content.Mortgage it) stamp) ≡ None → IsUnrefusedMortgage r it
unrefused_mortgage r it stamp none =
    let many = runs_out_of_numbers r 1 || would_exceed_entries r it.unit 1 in
    let bank = not (holds r it.creditor Bank) in
    let fails = none_hold ((NoSuchUnit, not (has r.units it.unit)) ∷ (NoSuchParty, not (has r.parties it.creditor)) ∷ (TooMany, many) ∷ (NotBank, bank) ∷ (ClockOut, is_none stamp) ∷ []) none in
    let unit = fails.0 in
    let party = fails.1.0 in
    let crowded = fails.1.1.0 in
    let room = or_parts (runs_out_of_numbers r 1) (would_exceed_entries r it.unit 1) crowded in
    record { unit = not-false _ unit; creditor = not-false _ party; room = room.0; few = room.1 }

pub unrefused_discharge : (r : Register) (it : Discharge) (stamp : Option ℤ) → first_refusal_of (content_refusals r (content.Discharge it) stamp) ≡ None → is_mortgage_at r it.mortgage ≡ true
unrefused_discharge r it stamp none =
    let mortgage = not (is_mortgage_at r it.mortgage) in
    let fails = none_hold ((NoSuchUnit, not (has r.units it.unit)) ∷ (NoSuchRight, not (is_entry_of_unit r it.unit it.mortgage)) ∷ (NotMortgage, mortgage) ∷ (ClockOut, is_none stamp) ∷ []) none in
    let found = fails.1.1.0 in
    not-false _ found
