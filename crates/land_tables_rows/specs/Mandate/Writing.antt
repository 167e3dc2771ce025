-- Rows of the table `mandate`.
use Rattle.std.specs.Prelude.{Bool, ◌&&◌}
use Rattle.land_core.specs.Numbers.{is_number}
use Rattle.land_core.specs.declared.mandates.Mandate.{Mandate}
use Rattle.land_tables_rows.specs.Mandate.Reading.{mandate_in}
use Rattle.land_tables_rows.specs.Writing.Holding.{Reading}
use Rattle.land_tables_schema.specs.Tables as table

-- the mandates of the table, by principal and agent
abbrev pub mandate_reading : Reading Mandate
mandate_reading = record { table = table.mandate; width = 4; said = mandate_in }

-- a mandate can be written if the numbers of the principal and of the agent are within their limits
abbrev pub fits_mandate : Mandate → Bool
fits_mandate mandate = is_number mandate.principal && is_number mandate.agent
