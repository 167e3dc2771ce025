-- The events that entries represent, and the bytes that a hasher gains.
use Rattle.std.specs.Prelude.{ℕ, ℤ, List, [], ◌∷◌, ◌++◌}
use Rattle.land_digest.specs.Events.{Event}
use Rattle.land_digest.specs.Fields.{Field, Number, number_field}
use Rattle.land_digest.specs.Rows.{mutation_values, parcel_values, party_values, rrr_values, share_values}
use Rattle.land_digest.specs.Rows.{source_values, unit_values}
use Rattle.land_digest.specs.declared.entry.Entry.{Entry}
use Rattle.land_digest.specs.declared.entry.Values.{Values}
use Rattle.land_digest.specs.declared.entry.Values.TheVariants as values
use Rattle.sha2.specs.Hashers.{Holds256}
use Rattle.sha2.specs.declared.Sha256.{Sha256}

-- the values that an entry refers to
abbrev pub values_of : Values → List Field
values_of values.Nothing = []
values_of (values.Moment next) = number_field next ∷ []
values_of (values.Party party) = party_values party.now
values_of (values.Share share) = share_values share.now
values_of (values.Unit unit) = unit_values unit.now
values_of (values.Parcel parcel) = parcel_values parcel.now
values_of (values.Rrr rrr) = rrr_values rrr.now
values_of (values.Source source) = source_values source.now
values_of (values.Mutation mutation) = mutation_values mutation.now

abbrev pub event_of : Entry → Event
event_of e = record {
  stamp = e.place.0;
  ends = e.place.1;
  table = e.place.2;
  first = e.place.3;
  second = e.place.4;
  values = values_of e.values;
}

-- the fields of a place, which start each line
abbrev pub place_fields : ℤ × ℕ × ℕ × ℕ × ℕ → List Field
place_fields p = Number p.0 ∷ number_field p.1 ∷ number_field p.2 ∷ number_field p.3 ∷ number_field p.4 ∷ []

-- a hasher gains these bytes
abbrev pub Gains : Sha256 → Sha256 → List ℕ → Type 0
Gains old new bytes = (message : List ℕ) → Holds256 old message → Holds256 new (message ++ bytes)
