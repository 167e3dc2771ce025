use Rattle.std.proofs.Common.{take, Ok, ◌≡◌, false}
use Rattle.land_select_queries.specs.Joins.Execution.{AreNumbersOfAny}
use Rattle.land_tables_rows.specs.declared.listing.fault.ReadFault.{ReadFault}
use Rattle.land_tables_schema.specs.Rows.ReadQueries.{IsStoreRead}
use Rattle.sqlite.specs.Held.{state}
use Rattle.land_select_queries.proofs.joins.running.collect_numbers.Given as goal

abbrev pub invariant-loop-selection : goal.invariant-loop-selection
invariant-loop-selection g l =
    IsStoreRead {X = Unit {0}} {E = ReadFault} (Ok tt) (λ _. AreNumbersOfAny (take l.selection-index l.selections) l.fn.at l.fn.caller (state g.S.Store l.fn.conn).now.trees l.found.items)
    (state g.S.Store l.fn.conn) (state g.S.Store l.conn)
    × (l.fn.conn.in_transaction ≡ false → l.conn.in_transaction ≡ false)
