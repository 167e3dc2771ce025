use Rattle.land_tables_schema.proofs.Texts.{texts_define}
use Rattle.land_tables_schema.proofs.laws.statements_define_tables.Goals as goal

pub returns : goal.returns
returns c = texts_define
