use Rattle.land_tables_schema.proofs.KnownSchemas.{known_schemas}
use Rattle.land_tables_schema.proofs.laws.schemas_are_recognized.Goals as goal

pub returns : goal.returns
returns c = known_schemas
