use Rattle.std.proofs.Common.{take, ◌≡◌, Ok}
use Rattle.land_tables_rows.specs.Recording.{BeginsAll}
use Rattle.land_tables_schema.specs.Steps.{IsTransactionStep}
use Rattle.sqlite.specs.Held.{state}
use Rattle.sqlite.specs.declared.error.Error.{Error}
use Rattle.land_tables_rows.proofs.change_writing.all.begin_all.Given as goal

abbrev pub invariant-loop-x : goal.invariant-loop-x
invariant-loop-x g l =
    (l.tx.conn.ghost_name ≡ l.fn.tx.conn.ghost_name)
    × IsTransactionStep {X = Unit {0}} {E = Error} (Ok tt) (BeginsAll g.X.Versioned.reading (take l.x-index l.put) l.since) (state g.S.Store l.fn.tx.conn.now) (state g.S.Store l.tx.conn.now)
