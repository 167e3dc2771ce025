-- Rows of the table `party`.
use Rattle.std.specs.Prelude.{ℕ, Bool, ◌&&◌}
use Rattle.land_core.specs.Numbers.{is_number}
use Rattle.land_core.specs.Texts.{is_name}
use Rattle.land_core.specs.declared.party.PartyRecord.{PartyRecord}
use Rattle.land_tables_rows.specs.Party.Reading.{party_in}
use Rattle.land_tables_rows.specs.Writing.Holding.{Reading}
use Rattle.land_tables_schema.specs.Tables.{party}

-- parties by number
abbrev pub party_reading : Reading (ℕ × PartyRecord)
party_reading = record { table = party; width = 5; said = party_in }

-- a party can be written if its number and its name are within their limits
abbrev pub fits_party : ℕ → PartyRecord → Bool
fits_party number p = is_number number && is_name p.name
