use Rattle.std.proofs.Common.{take, drop, map, ◌≡◌, Ok}
use Rattle.land_tables_schema.proofs.Creates.{HasDefined}
use Rattle.land_tables_schema.specs.Steps.{IsTransactionStep}
use Rattle.sqlite.specs.Held.{state}
use Rattle.sqlite.specs.declared.error.Error.{Error}
use Rattle.land_tables_schema.proofs.making.define_all.Given as goal

abbrev pub invariant-loop-text : goal.invariant-loop-text
invariant-loop-text g l =
    (l.tx.conn.ghost_name ≡ l.fn.tx.conn.ghost_name)
    × IsTransactionStep {X = Unit {0}} {E = Error} (Ok tt) (HasDefined (map (λ t. t.now) (take l.text-index l.texts)) (map (λ t. t.now) (drop l.text-index l.texts)))
    (state g.S.Store l.fn.tx.conn.now) (state g.S.Store l.tx.conn.now)
