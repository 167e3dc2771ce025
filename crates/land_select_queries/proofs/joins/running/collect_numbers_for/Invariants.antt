use Rattle.std.proofs.Common.{take, Ok, ◌≡◌, false}
use Rattle.land_select_queries.specs.Joins.Execution.{AreNumbersForAny}
use Rattle.land_tables_rows.specs.declared.listing.fault.ReadFault.{ReadFault}
use Rattle.land_tables_schema.specs.Rows.ReadQueries.{IsStoreRead}
use Rattle.sqlite.specs.Held.{state}
use Rattle.land_select_queries.proofs.joins.running.collect_numbers_for.Given as goal

abbrev pub invariant-loop-caller : goal.invariant-loop-caller
invariant-loop-caller g l =
    IsStoreRead {X = Unit {0}} {E = ReadFault} (Ok tt) (λ _. AreNumbersForAny l.selections l.fn.at (take l.caller-index l.callers) (state g.S.Store l.fn.conn).now.trees l.found.items)
    (state g.S.Store l.fn.conn) (state g.S.Store l.conn)
    × (l.fn.conn.in_transaction ≡ false → l.conn.in_transaction ≡ false)
