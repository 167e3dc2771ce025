use Rattle.land_tables_schema.proofs.Asks.{looks}
use Rattle.land_tables_schema.proofs.Namings.{listing}
use Rattle.land_tables_schema.proofs.Versions.{columns_of}
use Rattle.land_tables_schema.specs.Schemas.{ContainsSchemaV1}
use Rattle.land_tables_schema.specs.Rows.ReadQueries.{columns_from}
use Rattle.land_tables_schema.specs.declared.rows.tables.names.TheConstants.{ALL}
use Rattle.sqlite.specs.Held.{state}
use Rattle.land_tables_schema.proofs.rows.tables.names.all.Goals as goal

pub returns-clause-reads_only : goal.returns-clause-reads_only
returns-clause-reads_only g c =
    looks ContainsSchemaV1 18 ALL.now (columns_of 1 1 4) (columns_from 1 4) listing (state g.S.Store c.args.conn.now) (state g.S.Store c.query_all.new.self) (λ rows. rows.items) c.query_all.result c.requires c.query_all.ensures.ok c.query_all.ensures.err c.query_all.ensures.survives
