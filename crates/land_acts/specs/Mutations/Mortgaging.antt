-- The content `mortgage`: a unit becomes the security of a loan.
use Rattle.std.specs.Prelude.{ℕ, ◌+◌, ℤ, Bool, not, ◌||◌, nat_eq, nat_lt, List, [], ◌∷◌, Option, None}
use Rattle.std.specs.Prelude.{is_none, if◌then◌else◌}
use Rattle.std.specs.List.{filter_map}
use Rattle.std.specs.FinMap as map
use Rattle.land_acts.specs.Mutations.Planning.{would_exceed_entries, runs_out_of_numbers}
use Rattle.land_acts.specs.declared.mutations.refusal.Refusal.{Refusal}
use Rattle.land_acts.specs.declared.mutations.refusal.Refusal.TheVariants.{NoSuchUnit, NoSuchParty, TooMany}
use Rattle.land_acts.specs.declared.mutations.refusal.Refusal.TheVariants.{NotBank, ClockOut}
use Rattle.land_core.specs.Changes.{no_put, no_ended}
use Rattle.land_core.specs.Entries.{has}
use Rattle.land_core.specs.Register.{holds}
use Rattle.land_core.specs.Units.{rank_of}
use Rattle.land_core.specs.declared.change.Change.{Change}
use Rattle.land_core.specs.declared.content.Mortgage.{Mortgage}
use Rattle.land_core.specs.declared.register.Register.{Register}
use Rattle.land_core.specs.declared.role.Role.TheVariants.{Bank}
use Rattle.land_core.specs.declared.rrr.Class.TheVariants as class
use Rattle.land_core.specs.declared.rrr.RrrRecord.{RrrRecord}

-- the rank of an entry if it is a mortgage on the unit
abbrev pub rank_in : (unit : ℕ) → RrrRecord → Option ℕ
rank_in unit e = if nat_eq e.unit unit then rank_of e.class else None

-- the ranks of the mortgages on a unit
abbrev pub ranks_in : Register → (unit : ℕ) → List ℕ
ranks_in r unit = filter_map (λ e. rank_in unit e.1) (map.entries r.rrrs)

-- the greatest of these numbers, or 0 if there are none
abbrev pub greatest : List ℕ → ℕ
greatest [] = 0
greatest (n ∷ ns) = if nat_lt n (greatest ns) then greatest ns else n

-- a new mortgage has the rank after the greatest one
abbrev pub next_rank : Register → (unit : ℕ) → ℕ
next_rank r unit = greatest (ranks_in r unit) + 1

-- the refusals with their conditions, in ascending order
abbrev pub mortgage_refusals : Register → Mortgage → Option ℤ → List (Refusal × Bool)
mortgage_refusals r it stamp =
    (NoSuchUnit, not (has r.units it.unit))
    ∷ (NoSuchParty, not (has r.parties it.creditor))
    ∷ (TooMany, runs_out_of_numbers r 1 || would_exceed_entries r it.unit 1)
    ∷ (NotBank, not (holds r it.creditor Bank))
    ∷ (ClockOut, is_none stamp)
    ∷ []

-- the mortgage as an entry, with the source of the mutation
abbrev pub mortgage_entry : Register → (source : ℕ) → Mortgage → RrrRecord
mortgage_entry r source it =
    record {
      unit = it.unit;
      party = it.creditor;
      class = class.Mortgage it.amount it.currency
          (next_rank r it.unit);
      source = source;
    }

-- the mortgage gets the next number
abbrev pub mortgage_change : Register → (source : ℕ) → Mortgage → Change
mortgage_change r source it = record {
  put = record no_put { rrrs = (r.next, mortgage_entry r source it) ∷ [] };
  ended = no_ended;
  next = r.next + 1;
}
