-- Rows of the table `mutation`.
use Rattle.std.specs.Prelude.{ℕ}
use Rattle.land_core.specs.declared.mutation.MutationRecord.{MutationRecord}
use Rattle.land_tables_rows.specs.Mutation.Reading.{mutation_in}
use Rattle.land_tables_rows.specs.Writing.Holding.{Reading}
use Rattle.land_tables_schema.specs.Tables as table

-- mutations by number
abbrev pub mutation_reading : Reading (ℕ × MutationRecord)
mutation_reading = record { table = table.mutation; width = 10; said = mutation_in }
