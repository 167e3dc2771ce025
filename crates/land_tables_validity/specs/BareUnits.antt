-- The causes of a bare unit: it has no parcel, or no owner.
use Rattle.std.specs.Prelude.{ℕ, Bool, List, filter}
use Rattle.land_core.specs.Units.{is_right_of}
use Rattle.land_core.specs.declared.parcel.ParcelRecord.{ParcelRecord}
use Rattle.land_core.specs.declared.rrr.RightType.TheVariants.{Ownership}
use Rattle.land_core.specs.declared.rrr.RrrRecord.{RrrRecord}
use Rattle.land_tables_history.specs.declared.version.Version.{Version}

-- the number of a record
abbrev pub record_number : {V : Type 0} → ℕ × V → ℕ
record_number e = e.0

-- the unit of a parcel
abbrev pub parcel_unit : ℕ × ParcelRecord → ℕ
parcel_unit e = e.1.unit

-- the unit of an entry
abbrev pub entry_unit : ℕ × RrrRecord → ℕ
entry_unit e = e.1.unit

-- the entry is an ownership of its unit
abbrev pub owns : Version (ℕ × RrrRecord) → Bool
owns v = is_right_of Ownership v.what.1.class

-- the ownerships among entries
abbrev pub ownerships : List (Version (ℕ × RrrRecord)) → List (Version (ℕ × RrrRecord))
ownerships rrrs = filter owns rrrs
