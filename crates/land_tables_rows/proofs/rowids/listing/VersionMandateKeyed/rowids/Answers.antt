use Rattle.std.proofs.Common.{◌∷◌, []}
use Rattle.land_tables_rows.proofs.Texts.{mandates}
use Rattle.land_tables_rows.specs.declared.rowids.listing.TheConstants.{MANDATE}
use Rattle.land_tables_schema.proofs.Asks.{looks}
use Rattle.land_tables_schema.specs.Schemas.{IsSchemaV2}
use Rattle.land_tables_schema.specs.Rows.ReadQueries.{columns_from}
use Rattle.sqlite.specs.Held.{state}
use Rattle.sqlite.specs.Term.{col}
use Rattle.land_tables_rows.proofs.rowids.listing.VersionMandateKeyed.rowids.Goals as goal

pub returns-clause-reads_only : goal.returns-clause-reads_only
returns-clause-reads_only g c =
    looks IsSchemaV2 20 MANDATE.now (col 1 0 ∷ []) (columns_from 0 1) mandates (state g.S.Store c.args.conn.now) (state g.S.Store c.query_all.new.self) (λ rows. rows.items) c.query_all.result c.requires c.query_all.ensures.ok c.query_all.ensures.err c.query_all.ensures.survives
