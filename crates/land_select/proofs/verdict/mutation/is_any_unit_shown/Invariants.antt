use Rattle.std.proofs.Common.{take, Ok, ◌≡◌, false}
use Rattle.land_rules.specs.Denials.Interests.{interest_at, shows_unit}
use Rattle.land_select.proofs.Passing.{NonePasses}
use Rattle.land_tables_rows.specs.declared.listing.fault.ReadFault.{ReadFault}
use Rattle.land_tables_schema.specs.Rows.ReadQueries.{IsStoreRead}
use Rattle.sqlite.specs.Held.{state}
use Rattle.land_select.proofs.verdict.mutation.is_any_unit_shown.Given as goal

-- none of the units before the current one is shown
abbrev pub invariant-loop-unit : goal.invariant-loop-unit
invariant-loop-unit g l =
    IsStoreRead {X = Unit {0}} {E = ReadFault} (Ok tt) (λ _. NonePasses (λ r unit. shows_unit (interest_at r l.fn.caller unit)) l.fn.at (state g.S.Store l.fn.conn).now.trees (take l.unit-index l.units))
    (state g.S.Store l.fn.conn) (state g.S.Store l.conn)
    × (l.fn.conn.in_transaction ≡ false → l.conn.in_transaction ≡ false)
