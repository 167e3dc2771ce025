-- The content `transfer`: a share of a right in a unit goes to a receiver, who then has it in a right of the
-- same type.
use Rattle.std.specs.Prelude.{ℕ, ◌+◌, ◌*◌, ℤ, Bool, true, false, not, ◌&&◌, ◌||◌, nat_eq, nat_lt, List, []}
use Rattle.std.specs.Prelude.{◌∷◌, ◌++◌, Option, Some, None, is_none, Result, Ok, Err, if◌then◌else◌}
use Rattle.std.specs.List.{find, filter_map}
use Rattle.std.specs.Option.{option_map_or}
use Rattle.std.specs.FinMap as map
use Rattle.land_acts.specs.Mutations.Planning.{runs_out_of_numbers}
use Rattle.land_acts.specs.declared.mutations.refusal.Refusal.{Refusal}
use Rattle.land_acts.specs.declared.mutations.refusal.Refusal.TheVariants.{NoSuchUnit, NoSuchRight}
use Rattle.land_acts.specs.declared.mutations.refusal.Refusal.TheVariants.{NoSuchParty, ShareTooLarge}
use Rattle.land_acts.specs.declared.mutations.refusal.Refusal.TheVariants.{SharesTooFine, TooMany, ClockOut}
use Rattle.land_acts.specs.declared.mutations.refusal.Refusal.TheVariants.{SameParty}
use Rattle.land_acts.specs.declared.mutations.transfer.HeldRight.{HeldRight}
use Rattle.land_core.specs.Changes.{after, no_put, no_ended}
use Rattle.land_core.specs.Entries.{has}
use Rattle.land_core.specs.Units.{is_type, rrr_count, type_shares}
use Rattle.land_core.specs.declared.change.Change.{Change}
use Rattle.land_core.specs.declared.content.Transfer.{Transfer}
use Rattle.land_core.specs.declared.register.Register.{Register}
use Rattle.land_core.specs.declared.rrr.Class.{Class}
use Rattle.land_core.specs.declared.rrr.Class.TheVariants as class
use Rattle.land_core.specs.declared.rrr.RightType.{RightType}
use Rattle.land_core.specs.declared.rrr.RrrRecord.{RrrRecord}
use Rattle.land_fraction.specs.Answer.{fraction_of}
use Rattle.land_fraction.specs.Ratio.{Ratio, difference_of, sum_of}
use Rattle.land_fraction.specs.Wholeness.{common_of}
use Rattle.land_fraction.specs.declared.fault.FractionFault.{FractionFault}
use Rattle.land_fraction.specs.declared.fault.FractionFault.TheVariants as fault

-- ---- the rights of giver and receiver

-- an entry as a right, if it is one: its number, party, type and share
abbrev pub right_of_class : (number party : ℕ) → Class → Option HeldRight
right_of_class number party (class.Right type share) =
    Some (record { number = number; party = party; right_type = type; share = share })
right_of_class number party (class.Restriction words) = None
right_of_class number party (class.Responsibility words) = None
right_of_class number party (class.Mortgage amount currency rank) = None

-- the same, if the entry is in the unit
abbrev pub right_in_unit : (unit number : ℕ) → RrrRecord → Option HeldRight
right_in_unit unit number e = if nat_eq e.unit unit then right_of_class number e.party e.class else None

-- the right of this unit that exists at a number
abbrev pub right_at : Register → (unit number : ℕ) → Option HeldRight
right_at r unit number = option_map_or (right_in_unit unit number) (map.get r.rrrs number) None

-- whether a right is of this party and this type
abbrev pub is_right_held_by : (party : ℕ) → RightType → HeldRight → Bool
is_right_held_by party type held = nat_eq held.party party && is_type held.right_type type

-- the right of a type that a party has in a unit; there is at most one
abbrev pub right_by_party : Register → (unit party : ℕ) → RightType → Option HeldRight
right_by_party r unit party type =
    find (is_right_held_by party type) (filter_map (λ e. right_in_unit unit e.0 e.1) (map.entries r.rrrs))

-- the right of the same type that the receiver already has
abbrev pub right_of_receiver : Register → Transfer → HeldRight → Option HeldRight
right_of_receiver r it from = right_by_party r it.unit it.receiver from.right_type

-- ---- the shares after the transfer

-- the remaining share of the giver's right
abbrev pub remaining_share : Transfer → HeldRight → Result Ratio FractionFault
remaining_share it from = fraction_of (difference_of from.share it.share)

-- the increased share of the receiver's right
abbrev pub increased_share : Transfer → HeldRight → Result Ratio FractionFault
increased_share it to = fraction_of (sum_of to.share it.share)

-- whether a sum of two shares is above one; a sum of shares is never zero, and pairs that are not shares are
-- refused as well
abbrev pub is_above_one : Result Ratio FractionFault → Bool
is_above_one (Ok share) = false
is_above_one (Err fault.Zero) = true
is_above_one (Err fault.AboveOne) = true
is_above_one (Err fault.TooFine) = false

-- whether the denominator of a changed share is above 1,000,000,000
abbrev pub is_too_fine : Result Ratio FractionFault → Bool
is_too_fine (Ok share) = false
is_too_fine (Err fault.Zero) = false
is_too_fine (Err fault.AboveOne) = false
is_too_fine (Err fault.TooFine) = true

-- a right as an entry, with its source
abbrev pub right_entry : (unit party : ℕ) → RightType → Ratio → (source : ℕ) → RrrRecord
right_entry unit party type share source =
    record { unit = unit; party = party; class = class.Right type share; source = source }

-- the giver's right with its remaining share, if there is one
abbrev pub remaining_entry : (source : ℕ) → Transfer → HeldRight → Result Ratio FractionFault
    → List (ℕ × RrrRecord)
remaining_entry source it from (Ok share) =
    (from.number, right_entry it.unit from.party from.right_type share source) ∷ []
remaining_entry source it from (Err fault) = []

-- the giver's right ends if no share remains
abbrev pub ended_rights : HeldRight → Result Ratio FractionFault → List ℕ
ended_rights from (Ok share) = []
ended_rights from (Err fault) = from.number ∷ []

-- the receiver's right with its increased share
abbrev pub increased_entry : (source : ℕ) → Transfer → HeldRight → Result Ratio FractionFault
    → List (ℕ × RrrRecord)
increased_entry source it to
    (Ok share) = (to.number, right_entry it.unit it.receiver to.right_type share source) ∷ []
increased_entry source it to (Err fault) = []

-- the receiver's right with its increased share, or a new right
abbrev pub entries_of_receiver : Register → (source : ℕ) → Transfer → HeldRight → Option HeldRight
    → List (ℕ × RrrRecord)
entries_of_receiver r source it from None =
    (r.next, right_entry it.unit it.receiver from.right_type it.share source) ∷ []
entries_of_receiver r source it from (Some to) = increased_entry source it to (increased_share it to)

-- a new right gets the next number
abbrev pub new_rights : Register → Option HeldRight → List ℕ
new_rights r None = r.next ∷ []
new_rights r (Some to) = []

-- the next number after the transfer
abbrev pub number_after : Register → Option HeldRight → ℕ
number_after r None = r.next + 1
number_after r (Some to) = r.next

-- the change of a transfer from a right
abbrev pub move_change : Register → (source : ℕ) → Transfer → HeldRight → Change
move_change r source it from = record {
  put = record no_put {
    rrrs = remaining_entry source it from (remaining_share it from)
        ++ entries_of_receiver r source it from (right_of_receiver r it from);
  };
  ended = record no_ended { rrrs = ended_rights from (remaining_share it from) };
  next = number_after r (right_of_receiver r it from);
}

-- ---- the refusals

-- whether the receiver is the party that gives
abbrev pub gives_to_itself : Transfer → HeldRight → Bool
gives_to_itself it from = nat_eq from.party it.receiver

-- whether the share is above that of the right
abbrev pub is_above : Transfer → HeldRight → Bool
is_above it from =
    nat_lt (from.share.numerator * it.share.denominator) (it.share.numerator * from.share.denominator)

-- whether the share is above that of the right, or another receiver would have more than one
abbrev pub is_too_large : Register → Transfer → HeldRight → Bool
is_too_large r it from =
    is_above it from || not (gives_to_itself it from)
    && option_map_or (λ to. is_above_one (increased_share it to)) (right_of_receiver r it from) false

-- whether a unit exists and is checked
abbrev pub is_checked : Register → (unit : ℕ) → Bool
is_checked r unit = option_map_or (λ u. u.checked) (map.get r.units unit) false

-- whether the shares of a type in a unit have no common denominator up to 1,000,000,000 after the transfer
abbrev pub are_too_fine_after : Register → Transfer → HeldRight → Bool
are_too_fine_after r it from =
    is_none (common_of (type_shares (after (move_change r 0 it from) r) it.unit from.right_type))

-- whether a changed share is too fine, or the unit is checked and its shares of the type would be
abbrev pub are_too_fine : Register → Transfer → HeldRight → Bool
are_too_fine r it from =
    not (gives_to_itself it from)
    && (is_too_fine (remaining_share it from)
    || option_map_or (λ to. is_too_fine (increased_share it to)) (right_of_receiver r it from) false
    || is_checked r it.unit && are_too_fine_after r it from)

-- whether the receiver needs a new right, and either no number is left for it or the unit would have more
-- than 256 entries
abbrev pub are_too_many : Register → Transfer → HeldRight → Bool
are_too_many r it from =
    is_none (right_of_receiver r it from)
    && (runs_out_of_numbers r 1 || nat_lt 256 (rrr_count (after (move_change r 0 it from) r) it.unit))

-- whether the right exists and satisfies a condition
abbrev pub has_right_where : (HeldRight → Bool) → Register → Transfer → Bool
has_right_where passes r it = option_map_or passes (right_at r it.unit it.right) false

-- the refusals with their conditions, in ascending order
abbrev pub transfer_refusals : Register → Transfer → Option ℤ → List (Refusal × Bool)
transfer_refusals r it stamp =
    (NoSuchUnit, not (has r.units it.unit))
    ∷ (NoSuchRight, is_none (right_at r it.unit it.right))
    ∷ (NoSuchParty, not (has r.parties it.receiver))
    ∷ (ShareTooLarge, has_right_where (is_too_large r it) r it)
    ∷ (SharesTooFine, has_right_where (are_too_fine r it) r it)
    ∷ (TooMany, has_right_where (are_too_many r it) r it)
    ∷ (ClockOut, is_none stamp)
    ∷ (SameParty, has_right_where (gives_to_itself it) r it)
    ∷ []
