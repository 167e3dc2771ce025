use Rattle.land_tables.proofs.TableContents.{found_then, unsaid_then}
use Rattle.sqlite.specs.Held.{state}
use Rattle.land_tables.proofs.table_contents.read_tables_v1.Goals as goal

pub returns-clause-reads_only : goal.returns-clause-reads_only
returns-clause-reads_only g c =
    found_then (state g.S.Store c.args.conn.now) (state g.S.Store c.check_rowids_v1.new.conn) (state g.S.Store c.read_rows_v1.new.conn) c.in_ok-check_rowids_v1.ensures.reads_only c.read_rows_v1.result c.read_rows_v1.ensures.reads_only

pub returns-clause-unreadable : goal.returns-clause-unreadable
returns-clause-unreadable g c clean =
    unsaid_then (state g.S.Store c.args.conn.now) (state g.S.Store c.check_rowids_v1.new.conn) (state g.S.Store c.read_rows_v1.new.conn) c.in_ok-check_rowids_v1.ensures.reads_only c.read_rows_v1.result c.read_rows_v1.ensures.reads_only clean (c.read_rows_v1.ensures.unreadable clean)
