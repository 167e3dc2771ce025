-- Rows of the table `names`.
use Rattle.std.specs.Prelude.{Bool, ◌&&◌}
use Rattle.land_core.specs.Numbers.{is_number}
use Rattle.land_tables_history.specs.declared.naming.Naming.{Naming}
use Rattle.land_tables_rows.specs.Naming.Reading.{naming_in}
use Rattle.land_tables_rows.specs.Writing.Holding.{Reading}
use Rattle.land_tables_schema.specs.Tables as table

-- which mutations refer to which units
abbrev pub naming_reading : Reading Naming
naming_reading = record { table = table.names; width = 4; said = naming_in }

-- a link can be written if the numbers of the mutation and of the unit are within their limits
abbrev pub fits_naming : Naming → Bool
fits_naming naming = is_number naming.mutation && is_number naming.unit
