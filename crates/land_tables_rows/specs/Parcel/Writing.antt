-- Rows of the table `parcel`.
use Rattle.std.specs.Prelude.{ℕ}
use Rattle.land_core.specs.declared.parcel.ParcelRecord.{ParcelRecord}
use Rattle.land_tables_rows.specs.Parcel.Reading.{parcel_in}
use Rattle.land_tables_rows.specs.Writing.Holding.{Reading}
use Rattle.land_tables_schema.specs.Tables as table

-- parcels by number
abbrev pub parcel_reading : Reading (ℕ × ParcelRecord)
parcel_reading = record { table = table.parcel; width = 7; said = parcel_in }
