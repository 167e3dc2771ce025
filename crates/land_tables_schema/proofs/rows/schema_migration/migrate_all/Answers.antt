use Rattle.land_tables_schema.proofs.SchemaMigration.{all_steps, index_land, joins_first, joins_next, table_land}
use Rattle.sqlite.specs.Held.{state}
use Rattle.land_tables_schema.proofs.rows.schema_migration.migrate_all.Goals as goal

pub create_mandate_table-requires-clause-first : goal.create_mandate_table-requires-clause-first
create_mandate_table-requires-clause-first g c = joins_first (state g.S.Store c.args.tx.now.conn.now) (state g.S.Store c.drop_lookup_indexes.new.tx.conn.now) c.requires c.in_ok-drop_lookup_indexes.ensures.step

pub create_mandate_table-requires-clause-next : goal.create_mandate_table-requires-clause-next
create_mandate_table-requires-clause-next g c = joins_next (state g.S.Store c.args.tx.now.conn.now) (state g.S.Store c.drop_lookup_indexes.new.tx.conn.now) c.requires c.in_ok-drop_lookup_indexes.ensures.step

pub create_lookup_indexes-requires : goal.create_lookup_indexes-requires
create_lookup_indexes-requires g c =
    let first = joins_first (state g.S.Store c.args.tx.now.conn.now) (state g.S.Store c.drop_lookup_indexes.new.tx.conn.now) c.requires c.in_ok-drop_lookup_indexes.ensures.step in
    table_land (state g.S.Store c.drop_lookup_indexes.new.tx.conn.now) (state g.S.Store c.create_mandate_table.new.tx.conn.now) first c.in_ok-create_mandate_table.ensures.step

pub raise-requires : goal.raise-requires
raise-requires g c = index_land (state g.S.Store c.create_mandate_table.new.tx.conn.now) (state g.S.Store c.create_lookup_indexes.new.tx.conn.now) c.in_ok-create_lookup_indexes.ensures.step

pub returns-clause-step : goal.returns-clause-step
returns-clause-step g c =
    all_steps (state g.S.Store c.args.tx.now.conn.now) (state g.S.Store c.drop_lookup_indexes.new.tx.conn.now) (state g.S.Store c.create_mandate_table.new.tx.conn.now) (state g.S.Store c.create_lookup_indexes.new.tx.conn.now)
    (state g.S.Store c.raise.new.tx.conn.now) c.in_ok-drop_lookup_indexes.ensures.step c.in_ok-create_mandate_table.ensures.step c.in_ok-create_lookup_indexes.ensures.step c.in_ok-raise.ensures.step
