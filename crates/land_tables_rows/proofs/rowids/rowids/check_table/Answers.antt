use Rattle.land_tables_rows.proofs.Keyed.{keyed_look}
use Rattle.sqlite.specs.Held.{state}
use Rattle.land_tables_rows.proofs.rowids.rowids.check_table.Goals as goal

pub returns-clause-reads_only : goal.returns-clause-reads_only
returns-clause-reads_only g c =
    keyed_look g.X.Listed.listing.table (state g.S.Store c.args.conn.now) (state g.S.Store c.rowids.new.conn) (λ rows. rows.items) c.in_ok-rows.rows c.in_ok-rows.ensures.reads_only c.as_slice.result.now c.as_slice.ensures.value c.are_numbered.result c.are_numbered.ensures.numbered
