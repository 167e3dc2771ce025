-- Rows of the table `unit`.
use Rattle.std.specs.Prelude.{ℕ, Bool, ◌&&◌}
use Rattle.land_core.specs.Numbers.{is_number}
use Rattle.land_core.specs.Texts.{is_name}
use Rattle.land_core.specs.declared.unit.UnitRecord.{UnitRecord}
use Rattle.land_tables_rows.specs.Unit.Reading.{unit_in}
use Rattle.land_tables_rows.specs.Writing.Holding.{Reading}
use Rattle.land_tables_schema.specs.Tables as table

-- units by number
abbrev pub unit_reading : Reading (ℕ × UnitRecord)
unit_reading = record { table = table.unit; width = 5; said = unit_in }

-- a unit can be written if its number and its name are within their limits
abbrev pub fits_unit : ℕ → UnitRecord → Bool
fits_unit number u = is_number number && is_name u.name
