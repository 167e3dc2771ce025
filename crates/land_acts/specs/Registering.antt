-- The act `register`: a unit is added with its first parcels and rights.
use Rattle.std.specs.Prelude.{ℕ, ◌+◌, ℤ, Bool, not, ◌&&◌, List, [], ◌∷◌, length, map as map_list, Option}
use Rattle.std.specs.Prelude.{is_none}
use Rattle.land_acts.specs.FirstRights.{lists_absent_party, are_types_too_fine, are_types_whole}
use Rattle.land_acts.specs.FirstRights.{has_right_twice}
use Rattle.land_acts.specs.Mutations.Numbering.{with_numbers_from, numbers_from}
use Rattle.land_acts.specs.Mutations.Planning.{document_source, runs_out_of_numbers}
use Rattle.land_acts.specs.declared.mutations.refusal.Refusal.{Refusal}
use Rattle.land_acts.specs.declared.mutations.refusal.Refusal.TheVariants.{NoSuchParty, SharesTooFine}
use Rattle.land_acts.specs.declared.mutations.refusal.Refusal.TheVariants.{TooMany, SharesNotWhole, ClockOut}
use Rattle.land_acts.specs.declared.mutations.refusal.Refusal.TheVariants.{SameParty}
use Rattle.land_core.specs.Changes.{no_put, no_ended}
use Rattle.land_core.specs.declared.act.NewParcel.{NewParcel}
use Rattle.land_core.specs.declared.act.NewRight.{NewRight}
use Rattle.land_core.specs.declared.act.NewUnit.{NewUnit}
use Rattle.land_core.specs.declared.change.Change.{Change}
use Rattle.land_core.specs.declared.change.Done.{Done}
use Rattle.land_core.specs.declared.parcel.ParcelRecord.{ParcelRecord}
use Rattle.land_core.specs.declared.register.Register.{Register}
use Rattle.land_core.specs.declared.rrr.Class.TheVariants.{Right}
use Rattle.land_core.specs.declared.rrr.RrrRecord.{RrrRecord}
use Rattle.land_core.specs.declared.source.SourceKind.TheVariants.{Administrative}

-- the number of new objects: the source, the unit, the parcels and the rights
abbrev pub new_count : NewUnit → ℕ
new_count it = 2 + length it.parcels + length it.rights

-- the refusals with their conditions, in ascending order
abbrev pub register_refusals : Register → NewUnit → Option ℤ → List (Refusal × Bool)
register_refusals r it stamp =
    (NoSuchParty, lists_absent_party r it.rights)
    ∷ (SharesTooFine, it.checked && are_types_too_fine it.rights)
    ∷ (TooMany, runs_out_of_numbers r (new_count it))
    ∷ (SharesNotWhole, it.checked && not (are_types_whole it.rights))
    ∷ (ClockOut, is_none stamp)
    ∷ (SameParty, has_right_twice it.rights)
    ∷ []

-- the record of a parcel
abbrev pub new_parcel_record : (unit source : ℕ) → NewParcel → ParcelRecord
new_parcel_record unit source parcel =
    record { unit = unit; label = parcel.label; outline = parcel.outline; source = source }

-- the record of a right
abbrev pub new_right_record : (unit source : ℕ) → NewRight → RrrRecord
new_right_record unit source right =
    record { unit = unit; party = right.party; class = Right right.right_type right.share; source = source }

-- the source gets the next number, then the unit, the parcels and the rights; the source of all is this
-- document
abbrev pub register_change : Register → NewUnit → Change
register_change r it = record {
  put = record no_put {
    units = (r.next + 1, record { name = it.name; checked = it.checked }) ∷ [];
    parcels = with_numbers_from (r.next + 2) (map_list (new_parcel_record (r.next + 1) r.next) it.parcels);
    rrrs = with_numbers_from (r.next + 2 + length it.parcels)
        (map_list (new_right_record (r.next + 1) r.next) it.rights);
    sources = document_source r.next Administrative it.document;
  };
  ended = no_ended;
  next = r.next + new_count it;
}

-- the receipt is about the unit
abbrev pub register_done : Register → NewUnit → ℤ → Done
register_done r it stamp =
    record { number = r.next + 1; made = numbers_from r.next (new_count it); stamp = stamp }
