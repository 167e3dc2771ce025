-- Rows of the table `source`.
use Rattle.std.specs.Prelude.{ℕ, Bool, ◌&&◌}
use Rattle.land_core.specs.Numbers.{is_number}
use Rattle.land_core.specs.Texts.{is_title}
use Rattle.land_core.specs.declared.source.SourceRecord.{SourceRecord}
use Rattle.land_tables_rows.specs.Source.Reading.{source_in}
use Rattle.land_tables_rows.specs.Writing.Holding.{Reading}
use Rattle.land_tables_schema.specs.Tables as table

-- sources by number
abbrev pub source_reading : Reading (ℕ × SourceRecord)
source_reading = record { table = table.source; width = 5; said = source_in }

-- a source can be written if its number and its title are within their limits
abbrev pub fits_source : ℕ → SourceRecord → Bool
fits_source number s = is_number number && is_title s.title
