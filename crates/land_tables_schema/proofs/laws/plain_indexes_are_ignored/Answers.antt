use Rattle.land_tables_schema.proofs.KnownSchemas.{known_by_indexes}
use Rattle.land_tables_schema.proofs.laws.plain_indexes_are_ignored.Goals as goal

pub returns : goal.returns
returns c s = known_by_indexes s
