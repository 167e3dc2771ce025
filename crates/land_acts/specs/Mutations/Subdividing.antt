-- The content `subdivision`: a parcel of a unit ends, and its parts replace it. A part stays in the unit, or
-- becomes the parcel of a new unit that gets copies of all entries of the old one.
use Rattle.std.specs.Prelude.{ℕ, ◌+◌, ℤ, Bool, false, not, ◌&&◌, ◌||◌, nat_eq, nat_lt, List, [], ◌∷◌, ◌++◌}
use Rattle.std.specs.Prelude.{map as map_list, filter, length, Option, Some, None, is_none}
use Rattle.std.specs.Option.{option_map_or}
use Rattle.std.specs.FinMap as map
use Rattle.land_acts.specs.Mutations.Areas.{outlines_at}
use Rattle.land_acts.specs.Mutations.Grounds.{are_same_ground}
use Rattle.land_acts.specs.Mutations.Numbering.{with_numbers_from, numbers_from}
use Rattle.land_acts.specs.Mutations.Planning.{runs_out_of_numbers}
use Rattle.land_acts.specs.Mutations.Transferring.{is_checked}
use Rattle.land_acts.specs.declared.mutations.refusal.Refusal.{Refusal}
use Rattle.land_acts.specs.declared.mutations.refusal.Refusal.TheVariants.{NoSuchUnit, NoSuchParcel, TooMany}
use Rattle.land_acts.specs.declared.mutations.refusal.Refusal.TheVariants.{ClockOut, NotMatched}
use Rattle.land_core.specs.Changes.{no_put, no_ended}
use Rattle.land_core.specs.Entries.{count_where, has}
use Rattle.land_core.specs.Mergers.{lists_number}
use Rattle.land_core.specs.declared.change.Change.{Change}
use Rattle.land_core.specs.declared.parcel.ParcelRecord.{ParcelRecord}
use Rattle.land_core.specs.declared.register.Register.{Register}
use Rattle.land_core.specs.declared.rrr.RrrRecord.{RrrRecord}
use Rattle.land_core.specs.declared.subdivision.Part.{Part}
use Rattle.land_core.specs.declared.subdivision.Subdivision.{Subdivision}
use Rattle.land_core.specs.declared.unit.UnitRecord.{UnitRecord}
use Rattle.land_shape.specs.Place.{Place}

-- ---- the unit of the parcel

-- the entries of a unit, by ascending numbers
abbrev pub list_entries_of : Register → (unit : ℕ) → List RrrRecord
list_entries_of r unit = map_list (λ e. e.1) (filter (λ e. nat_eq e.1.unit unit) (map.entries r.rrrs))

-- the data that new units take over: the unit, whether it is checked, its entries, and the source of the
-- mutation
pub record Origin : Type 0 where
  pub unit : ℕ
  pub checked : Bool
  pub entries : List RrrRecord
  pub source : ℕ

-- this data of the unit of a subdivision
abbrev pub origin_of : Register → (source : ℕ) → Subdivision → Origin
origin_of r source it =
    record {
      unit = it.unit;
      checked = is_checked r it.unit;
      entries = list_entries_of r it.unit;
      source
          = source;
    }

-- a copy of an entry for another unit, with the same party, class and source
abbrev pub in_unit : (unit : ℕ) → RrrRecord → RrrRecord
in_unit unit e = record e { unit = unit }

-- ---- the objects of one part

-- the first part, which stays in the unit, and the others
abbrev pub all_parts : Subdivision → List Part
all_parts it = record { label = it.first.label; outline = it.first.outline; unit = None } ∷ it.rest

-- the count of numbers that a part takes: one for its parcel and, with a new unit, one for the unit and one
-- for each copied entry
abbrev pub numbers_for : Origin → (new_unit : Option (List ℕ)) → ℕ
numbers_for origin None = 1
numbers_for origin (Some name) = 2 + length origin.entries

-- first the unit
abbrev pub unit_made : Origin → (first : ℕ) → (new_unit : Option (List ℕ)) → List (ℕ × UnitRecord)
unit_made origin first None = []
unit_made origin first (Some name) = (first, record { name = name; checked = origin.checked }) ∷ []

-- then the parcel, with the source of the mutation
abbrev pub parcel_of_part : Origin → (unit : ℕ) → Part → ParcelRecord
parcel_of_part origin unit part =
    record { unit = unit; label = part.label; outline = part.outline; source = origin.source }

-- the parcel of a part, under its number
abbrev pub parcel_made : Origin → (first : ℕ) → Part → (new_unit : Option (List ℕ)) → List (ℕ × ParcelRecord)
parcel_made origin first part None = (first, parcel_of_part origin origin.unit part) ∷ []
parcel_made origin first part (Some name) = (first + 1, parcel_of_part origin first part) ∷ []

-- then copies of the entries, in their order
abbrev pub entries_made : Origin → (first : ℕ) → (new_unit : Option (List ℕ)) → List (ℕ × RrrRecord)
entries_made origin first None = []
entries_made origin first (Some name) = with_numbers_from (first + 2)
    (map_list (in_unit first) origin.entries)

-- ---- the objects of all parts, in their order

-- the next number after these parts
abbrev pub next_after : Origin → (first : ℕ) → List Part → ℕ
next_after origin first [] = first
next_after origin first (part ∷ parts) = next_after origin (first + numbers_for origin part.unit) parts

-- the new units
abbrev pub units_made : Origin → (first : ℕ) → List Part → List (ℕ × UnitRecord)
units_made origin first [] = []
units_made origin first (part ∷ parts) =
    unit_made origin first part.unit ++ units_made origin (first + numbers_for origin part.unit) parts

-- the parcels of the parts
abbrev pub parcels_made : Origin → (first : ℕ) → List Part → List (ℕ × ParcelRecord)
parcels_made origin first [] = []
parcels_made origin first (part ∷ parts) =
    parcel_made origin first part part.unit
    ++ parcels_made origin (first + numbers_for origin part.unit) parts

-- the entries of the new units
abbrev pub copies_made : Origin → (first : ℕ) → List Part → List (ℕ × RrrRecord)
copies_made origin first [] = []
copies_made origin first (part ∷ parts) =
    entries_made origin first part.unit ++ copies_made origin (first + numbers_for origin part.unit) parts

-- ---- the change

-- the change, from the data of the unit
abbrev pub cut_change : Register → Subdivision → Origin → Change
cut_change r it origin = record {
  put = record no_put {
    units = units_made origin r.next (all_parts it);
    parcels = parcels_made origin r.next (all_parts it);
    rrrs = copies_made origin r.next (all_parts it);
  };
  ended = record no_ended { parcels = it.parcel ∷ [] };
  next = next_after origin r.next (all_parts it);
}

-- the change of a subdivision
abbrev pub subdivision_change : Register → (source : ℕ) → Subdivision → Change
subdivision_change r source it = cut_change r it (origin_of r source it)

-- the number of new objects of these parts
abbrev pub count_for : Origin → List Part → ℕ
count_for origin [] = 0
count_for origin (part ∷ parts) = numbers_for origin part.unit + count_for origin parts

-- the number of new objects of a subdivision
abbrev pub subdivision_count : Register → Subdivision → ℕ
subdivision_count r it = count_for (origin_of r 0 it) (all_parts it)

-- the numbers of the new objects
abbrev pub subdivision_made : Register → Subdivision → List ℕ
subdivision_made r it = numbers_from r.next (subdivision_count r it)

-- ---- the refusals

-- whether a parcel of this unit exists at a number
abbrev pub has_parcel_in : Register → (unit number : ℕ) → Bool
has_parcel_in r unit n = option_map_or (λ p. nat_eq p.unit unit) (map.get r.parcels n) false

-- the outlines of these parts
abbrev pub outlines_of : List Part → List (List Place)
outlines_of parts = map_list (λ part. part.outline) parts

-- the number of parcels of a unit, except those that end
abbrev pub count_other_parcels : Register → (unit : ℕ) → (ended : List ℕ) → ℕ
count_other_parcels r unit ended = count_where (λ n p. nat_eq p.unit unit && not (lists_number ended n))
    r.parcels

-- the number of parts that stay in the unit
abbrev pub count_staying : List Part → ℕ
count_staying parts = length (filter (λ part. is_none part.unit) parts)

-- whether the unit would have more than 256 parcels; a new unit has one parcel, and no more entries than the
-- old one
abbrev pub would_have_many_parcels : Register → Subdivision → Bool
would_have_many_parcels r it = nat_lt 256
    (count_other_parcels r it.unit (it.parcel ∷ []) + count_staying (all_parts it))

-- the refusals with their conditions, in ascending order
abbrev pub subdivision_refusals : Register → Subdivision → Option ℤ → List (Refusal × Bool)
subdivision_refusals r it stamp =
    (NoSuchUnit, not (has r.units it.unit))
    ∷ (NoSuchParcel, not (has_parcel_in r it.unit it.parcel))
    ∷ (TooMany, runs_out_of_numbers r (subdivision_count r it) || would_have_many_parcels r it)
    ∷ (ClockOut, is_none stamp)
    ∷ (NotMatched, not (are_same_ground (outlines_at r (it.parcel ∷ [])) (outlines_of (all_parts it))))
    ∷ []
