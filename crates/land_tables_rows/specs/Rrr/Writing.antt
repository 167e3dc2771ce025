-- Rows of the table `rrr`.
use Rattle.std.specs.Prelude.{ℕ}
use Rattle.land_core.specs.declared.rrr.RrrRecord.{RrrRecord}
use Rattle.land_tables_rows.specs.Rrr.Reading.{rrr_in}
use Rattle.land_tables_rows.specs.Writing.Holding.{Reading}
use Rattle.land_tables_schema.specs.Tables as table

-- entries of units by number
abbrev pub rrr_reading : Reading (ℕ × RrrRecord)
rrr_reading = record { table = table.rrr; width = 13; said = rrr_in }
