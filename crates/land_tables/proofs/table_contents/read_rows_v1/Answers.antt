use Rattle.std.proofs.Common.{Ok}
use Rattle.land_tables.proofs.TableContents.{history_said}
use Rattle.land_tables_rows.proofs.ToldHistories.{cannot_then}
use Rattle.land_tables_rows.specs.Listing.Reading.{DecodesHistoryV1}
use Rattle.land_tables_rows.specs.declared.listing.fault.ReadFault.{ReadFault}
use Rattle.land_tables_schema.proofs.Looking.{look_then, was_clean}
use Rattle.land_tables_schema.specs.Rows.ReadQueries.{IsStoreRead}
use Rattle.sqlite.specs.Held.{state}
use Rattle.land_tables.proofs.table_contents.read_rows_v1.Goals as goal

pub returns-in_err-history-clause-unreadable : goal.returns-in_err-history-clause-unreadable
returns-in_err-history-clause-unreadable g c clean =
    let a = state g.S.Store c.args.conn.now in
    let b = state g.S.Store c.editions.new.conn in
    let d = state g.S.Store c.moments.new.conn in
    let two : IsStoreRead {X = Unit {0}} {E = ReadFault} (Ok tt) (λ _. Unit {0}) a d = look_then a b d c.in_ok-editions.ensures.reads_only c.in_ok-moments.ensures.reads_only (λ _ _ _ _. tt) in
    cannot_then DecodesHistoryV1 a d c.from_residual-in_err-history.result c.in_err-history.field-0.0 c.from_residual-in_err-history.ensures.1 (history_said a.now.trees) two
    (was_clean d (state g.S.Store c.read_history_v1.new.conn) c.in_err-history.ensures.reads_only.survives clean) (c.in_err-history.ensures.unreadable clean)
