use Rattle.land_tables_schema.proofs.Texts.{versions_differ}
use Rattle.land_tables_schema.proofs.laws.versions_differ_by_mandates.Goals as goal

pub returns : goal.returns
returns c = versions_differ
