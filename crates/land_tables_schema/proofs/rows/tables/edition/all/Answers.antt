use Rattle.std.proofs.Common.{◌∷◌, []}
use Rattle.land_tables_schema.proofs.Asks.{looks}
use Rattle.land_tables_schema.proofs.EditionRow.{listing}
use Rattle.land_tables_schema.specs.Schemas.{ContainsSchemaV1}
use Rattle.land_tables_schema.specs.declared.rows.tables.edition.TheConstants.{ALL}
use Rattle.sqlite.specs.Held.{state}
use Rattle.sqlite.specs.Term.{col}
use Rattle.sqlite_value.specs.Order.{column}
use Rattle.land_tables_schema.proofs.rows.tables.edition.all.Goals as goal

pub returns-clause-reads_only : goal.returns-clause-reads_only
returns-clause-reads_only g c =
    looks ContainsSchemaV1 0 ALL.now (col 1 0 ∷ col 1 2 ∷ []) (λ r. column r 0 ∷ column r 2 ∷ []) listing (state g.S.Store c.args.conn.now) (state g.S.Store c.query_all.new.self) (λ rows. rows.items) c.query_all.result c.requires c.query_all.ensures.ok c.query_all.ensures.err c.query_all.ensures.survives
