use Rattle.std.proofs.Common.{take, map, ◌≡◌, Ok}
use Rattle.std.specs.List.{list_any}
use Rattle.land_tables_history.specs.Written.{existing_records}
use Rattle.land_tables_rows.specs.Writing.Holding.{ClosesVersions}
use Rattle.land_tables_schema.specs.Steps.{IsTransactionStep}
use Rattle.sqlite.specs.Held.{state}
use Rattle.sqlite.specs.declared.error.Error.{Error}
use Rattle.land_tables_rows.proofs.change_writing.all.close_put.Given as goal

abbrev pub invariant-loop-x : goal.invariant-loop-x
invariant-loop-x g l =
    (l.tx.conn.ghost_name ≡ l.fn.tx.conn.ghost_name)
    × IsTransactionStep {X = Unit {0}} {E = Error} (Ok tt)
    (ClosesVersions g.X.Versioned.reading (λ x. list_any (g.X.Closable.has x) (map g.P.HasKey.key (existing_records g.P.HasKey.number l.next (take l.x-index l.put)))) l.stamp)
    (state g.S.Store l.fn.tx.conn.now) (state g.S.Store l.tx.conn.now)
