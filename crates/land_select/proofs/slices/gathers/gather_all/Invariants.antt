use Rattle.std.proofs.Common.{take, Ok, ◌≡◌, false}
use Rattle.land_select.specs.Slices.Gathered.{KnowsMore, with_numbers}
use Rattle.land_tables_rows.specs.declared.listing.fault.ReadFault.{ReadFault}
use Rattle.land_tables_schema.specs.Rows.ReadQueries.{IsStoreRead}
use Rattle.sqlite.specs.Held.{state}
use Rattle.land_select.proofs.slices.gathers.gather_all.Given as goal

-- the part that is read at this point
abbrev pub invariant-loop-number : goal.invariant-loop-number
invariant-loop-number g l =
    IsStoreRead {X = Unit {0}} {E = ReadFault} (Ok tt) (λ _. KnowsMore g.G.Gathers.knows (with_numbers (take l.number-index l.numbers)) l.fn.from l.gathered l.fn.at (state g.S.Store l.fn.conn).now.trees)
    (state g.S.Store l.fn.conn) (state g.S.Store l.conn)
    × (l.fn.conn.in_transaction ≡ false → l.conn.in_transaction ≡ false)
