use Rattle.land_tables_schema.proofs.Texts.{texts_finish}
use Rattle.land_tables_schema.proofs.laws.statements_create_schema.Goals as goal

pub returns : goal.returns
returns c = texts_finish
