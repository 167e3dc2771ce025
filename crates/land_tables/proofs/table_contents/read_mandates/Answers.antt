use Rattle.land_tables.proofs.TableContents.{mandates_then, unlisted_then}
use Rattle.sqlite.specs.Held.{state}
use Rattle.land_tables.proofs.table_contents.read_mandates.Goals as goal

pub returns-clause-reads_only : goal.returns-clause-reads_only
returns-clause-reads_only g c =
    mandates_then (state g.S.Store c.args.conn.now) (state g.S.Store c.check_mandate_rowids.new.conn) (state g.S.Store c.read_table.new.conn) c.in_ok-check_mandate_rowids.ensures.reads_only c.read_table.result c.read_table.ensures.reads_only

pub returns-clause-unreadable : goal.returns-clause-unreadable
returns-clause-unreadable g c clean =
    unlisted_then (state g.S.Store c.args.conn.now) (state g.S.Store c.check_mandate_rowids.new.conn) (state g.S.Store c.read_table.new.conn) c.in_ok-check_mandate_rowids.ensures.reads_only c.read_table.result c.read_table.ensures.reads_only clean (c.read_table.ensures.unreadable clean)
