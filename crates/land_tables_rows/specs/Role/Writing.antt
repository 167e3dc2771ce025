-- Rows of the table `role`.
use Rattle.std.specs.Prelude.{Bool}
use Rattle.land_core.specs.Numbers.{is_number}
use Rattle.land_core.specs.declared.roles.Grant.{Grant}
use Rattle.land_tables_rows.specs.Role.Reading.{role_grant_in}
use Rattle.land_tables_rows.specs.Writing.Holding.{Reading}
use Rattle.land_tables_schema.specs.Tables as table

-- the roles of each party
abbrev pub role_reading : Reading Grant
role_reading = record { table = table.role; width = 4; said = role_grant_in }

-- a grant can be written if the number of its party is within its limits
abbrev pub fits_grant : Grant → Bool
fits_grant grant = is_number grant.party
