use Rattle.land_tables_rows.proofs.ToldHistories.{cannot, cannot_then, first_said, mandates_said}
use Rattle.land_tables_rows.specs.Listing.Reading.{Says, mandates}
use Rattle.land_tables_schema.proofs.KnownSchemas.{land_has_first}
use Rattle.land_tables_schema.proofs.Looking.{was_clean}
use Rattle.sqlite.specs.Held.{state}
use Rattle.land_tables_rows.proofs.listing.history.history.Goals as goal

pub read_history_v1-requires : goal.read_history_v1-requires
read_history_v1-requires g c clean = land_has_first (state g.S.Store c.args.conn.now).now.schema (c.requires clean)

pub returns-in_err-history-clause-unreadable : goal.returns-in_err-history-clause-unreadable
returns-in_err-history-clause-unreadable g c clean =
    cannot c.from_residual.result c.in_err-history.field-0.0 c.from_residual.ensures.1 (first_said (state g.S.Store c.args.conn.now).now.trees) (c.in_err-history.ensures.unreadable clean)

pub returns-in_err-mandates-clause-unreadable : goal.returns-in_err-mandates-clause-unreadable
returns-in_err-mandates-clause-unreadable g c clean =
    let a = state g.S.Store c.args.conn.now in
    let b = state g.S.Store c.read_history_v1.new.conn in
    cannot_then (Says mandates) a b c.from_residual-in_err-mandates.result c.in_err-mandates.field-0.0 c.from_residual-in_err-mandates.ensures.1 (mandates_said a.now.trees) c.in_ok-history.ensures.reads_only
    (was_clean b (state g.S.Store c.read_table.new.conn) c.in_err-mandates.ensures.reads_only.survives clean) (c.in_err-mandates.ensures.unreadable clean)
