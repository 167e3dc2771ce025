use Rattle.std.proofs.Common.{take, ◌≡◌, Ok}
use Rattle.std.specs.List.{list_any}
use Rattle.land_tables_rows.specs.Writing.Holding.{ClosesVersions}
use Rattle.land_tables_schema.specs.Steps.{IsTransactionStep}
use Rattle.sqlite.specs.Held.{state}
use Rattle.sqlite.specs.declared.error.Error.{Error}
use Rattle.land_tables_rows.proofs.change_writing.all.close_all.Given as goal

abbrev pub invariant-loop-key : goal.invariant-loop-key
invariant-loop-key g l =
    (l.tx.conn.ghost_name ≡ l.fn.tx.conn.ghost_name)
    × IsTransactionStep {X = Unit {0}} {E = Error} (Ok tt) (ClosesVersions g.X.Versioned.reading (λ x. list_any (g.X.Closable.has x) (take l.key-index l.keys)) l.stamp)
    (state g.S.Store l.fn.tx.conn.now) (state g.S.Store l.tx.conn.now)
