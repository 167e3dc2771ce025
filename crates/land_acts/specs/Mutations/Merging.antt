-- The content `merger`: parcels of a unit, and of other units with the same entries, become one parcel of the
-- unit; the other units end.
use Rattle.std.specs.Prelude.{ℕ, ◌+◌, ℤ, Bool, true, false, not, ◌&&◌, ◌||◌, nat_eq, nat_lt, List, [], ◌∷◌}
use Rattle.std.specs.Prelude.{◌++◌, filter, length, Option, is_none}
use Rattle.std.specs.List.{list_all, list_any}
use Rattle.std.specs.Option.{option_map_or}
use Rattle.std.specs.Str.{bytes_eq}
use Rattle.std.specs.FinMap as map
use Rattle.land_acts.specs.Mutations.Areas.{outlines_at}
use Rattle.land_acts.specs.Mutations.Grounds.{are_same_ground}
use Rattle.land_acts.specs.Mutations.Planning.{runs_out_of_numbers}
use Rattle.land_acts.specs.Mutations.Subdividing.{list_entries_of, count_other_parcels}
use Rattle.land_acts.specs.Mutations.Transferring.{is_checked}
use Rattle.land_acts.specs.declared.mutations.refusal.Refusal.{Refusal}
use Rattle.land_acts.specs.declared.mutations.refusal.Refusal.TheVariants.{NoSuchUnit, NoSuchParcel}
use Rattle.land_acts.specs.declared.mutations.refusal.Refusal.TheVariants.{UnitsUnlike, TooMany, ClockOut}
use Rattle.land_acts.specs.declared.mutations.refusal.Refusal.TheVariants.{NotMatched}
use Rattle.land_core.specs.Changes.{no_put, no_ended}
use Rattle.land_core.specs.Contents.{is_same_share}
use Rattle.land_core.specs.Entries.{has, numbers_where}
use Rattle.land_core.specs.Mergers.{lists_number}
use Rattle.land_core.specs.Units.{is_type}
use Rattle.land_core.specs.declared.change.Change.{Change}
use Rattle.land_core.specs.declared.merger.Merger.{Merger}
use Rattle.land_core.specs.declared.register.Register.{Register}
use Rattle.land_core.specs.declared.rrr.Class.{Class}
use Rattle.land_core.specs.declared.rrr.Class.TheVariants as class
use Rattle.land_core.specs.declared.rrr.RrrRecord.{RrrRecord}

-- ---- units that can be merged

-- whether two classes are equal
abbrev pub is_same_class : Class → Class → Bool
is_same_class (class.Right type share) (class.Right other part) =
    is_type type other && is_same_share share part
is_same_class (class.Right type share) (class.Restriction other) = false
is_same_class (class.Right type share) (class.Responsibility other) = false
is_same_class (class.Right type share) (class.Mortgage sum coin place) = false
is_same_class (class.Restriction words) (class.Right other part) = false
is_same_class (class.Restriction words) (class.Restriction other) = bytes_eq words other
is_same_class (class.Restriction words) (class.Responsibility other) = false
is_same_class (class.Restriction words) (class.Mortgage sum coin place) = false
is_same_class (class.Responsibility words) (class.Right other part) = false
is_same_class (class.Responsibility words) (class.Restriction other) = false
is_same_class (class.Responsibility words) (class.Responsibility other) = bytes_eq words other
is_same_class (class.Responsibility words) (class.Mortgage sum coin place) = false
is_same_class (class.Mortgage amount currency rank) (class.Right other part) = false
is_same_class (class.Mortgage amount currency rank) (class.Restriction other) = false
is_same_class (class.Mortgage amount currency rank) (class.Responsibility other) = false
is_same_class (class.Mortgage amount currency rank) (class.Mortgage sum coin place) =
    nat_eq amount sum && bytes_eq currency coin && nat_eq rank place

-- whether two entries are equal, except for number, unit and source
abbrev pub is_same_entry : RrrRecord → RrrRecord → Bool
is_same_entry e f = nat_eq e.party f.party && is_same_class e.class f.class

-- the number of times that an entry occurs in a list
abbrev pub count_in : List RrrRecord → RrrRecord → ℕ
count_in entries e = length (filter (is_same_entry e) entries)

-- whether two lists have the same entries, each the same number of times
abbrev pub are_same_entries : List RrrRecord → List RrrRecord → Bool
are_same_entries entries others =
    list_all (λ e. nat_eq (count_in entries e) (count_in others e)) (entries ++ others)

-- ---- the refusals

-- whether the unit or one of the others does not exist
abbrev pub lacks_unit : Register → Merger → Bool
lacks_unit r it = not (has r.units it.unit) || list_any (λ n. not (has r.units n)) it.others

-- whether a unit is one of the units of the merger
abbrev pub is_unit_of_merger : Merger → (unit : ℕ) → Bool
is_unit_of_merger it n = nat_eq n it.unit || lists_number it.others n

-- whether a parcel of one of these units exists at a number
abbrev pub is_parcel_named : Register → Merger → (number : ℕ) → Bool
is_parcel_named r it n = option_map_or (λ p. is_unit_of_merger it p.unit) (map.get r.parcels n) false

-- whether a listed number is not a parcel of these units
abbrev pub lacks_parcel : Register → Merger → Bool
lacks_parcel r it = list_any (λ n. not (is_parcel_named r it n)) it.parcels

-- whether a unit has a parcel that is not listed
abbrev pub keeps_parcel : Register → Merger → (unit : ℕ) → Bool
keeps_parcel r it unit = nat_lt 0 (count_other_parcels r unit it.parcels)

-- whether two units are both checked or both not
abbrev pub are_equally_checked : (checked other : Bool) → Bool
are_equally_checked true other = other
are_equally_checked false other = not other

-- whether another unit cannot be merged with the unit: a parcel of it is not listed, only one of the two is
-- checked, or their entries differ
abbrev pub is_unlike : Register → Merger → (other : ℕ) → Bool
is_unlike r it other =
    keeps_parcel r it other
    || not (are_equally_checked (is_checked r other) (is_checked r it.unit))
    || not (are_same_entries (list_entries_of r other) (list_entries_of r it.unit))

-- whether one of the other units cannot be merged with the unit
abbrev pub has_unlike : Register → Merger → Bool
has_unlike r it = list_any (λ other. is_unlike r it other) it.others

-- whether the unit would have more than 256 parcels
abbrev pub would_have_more_parcels : Register → Merger → Bool
would_have_more_parcels r it = nat_lt 256 (count_other_parcels r it.unit it.parcels + 1)

-- the refusals with their conditions, in ascending order
abbrev pub merger_refusals : Register → Merger → Option ℤ → List (Refusal × Bool)
merger_refusals r it stamp =
    (NoSuchUnit, lacks_unit r it)
    ∷ (NoSuchParcel, lacks_parcel r it)
    ∷ (UnitsUnlike, has_unlike r it)
    ∷ (TooMany, runs_out_of_numbers r 1 || would_have_more_parcels r it)
    ∷ (ClockOut, is_none stamp)
    ∷ (NotMatched, not (are_same_ground (outlines_at r it.parcels) (it.outline ∷ [])))
    ∷ []

-- ---- the change

-- the numbers of the entries of the other units
abbrev pub entries_of_others : Register → Merger → List ℕ
entries_of_others r it = numbers_where (λ n e. lists_number it.others e.unit) r.rrrs

-- the parcels, the other units and their entries end; the new parcel gets the next number, and its source is
-- that of the mutation
abbrev pub merger_change : Register → (source : ℕ) → Merger → Change
merger_change r source it = record {
  put = record no_put {
    parcels =
        (r.next, record { unit = it.unit; label = it.label; outline = it.outline; source = source }) ∷ [];
  };
  ended = record no_ended { units = it.others; parcels = it.parcels; rrrs = entries_of_others r it };
  next = r.next + 1;
}
