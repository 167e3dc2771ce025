use Rattle.std.proofs.Common.{◌≡◌, of_z, rules, to_z, w64}
use Rattle.land_tables_history.specs.Intervals.{is_same_mandate}
use Rattle.land_tables_rows.proofs.Lives.{closes}
use Rattle.land_tables_rows.proofs.Mandates.{agree, is_reading, what}
use Rattle.land_tables_rows.specs.Mandate.Reading.{mandate_in}
use Rattle.land_tables_schema.proofs.Steps.{step_says}
use Rattle.land_tables_schema.specs.Rows.Forms.{UpdatesRows}
use Rattle.land_tables_schema.specs.Rows.Mandate.{is_mandate, mandate_cells, mandate_form}
use Rattle.land_tables_schema.specs.Rows.Versions.{closed_version}
use Rattle.land_tables_schema.specs.Steps.{IsTransactionStep}
use Rattle.land_tables_schema.specs.Tables as table
use Rattle.sqlite.specs.Held.{state}
use Rattle.land_tables_rows.proofs.mandate.writing.close.Goals as goal

pub returns-clause-step : goal.returns-clause-step
returns-clause-step g c =
    let old = state g.S.Store c.args.tx.now.conn.now in
    let new = state g.S.Store c.close.new.tx.conn.now in
    let stamp : to_z w64 (of_z w64 c.args.stamp) ≡ c.args.stamp = search rules in
    let step : IsTransactionStep c.close.result (UpdatesRows mandate_form (closed_version (is_mandate c.args.mandate.principal c.args.mandate.agent) c.args.stamp)) old new = rw (stamp) at c.close.ensures.step in
    step_says old new c.close.result step
    (λ clean turns. closes table.mandate 2 mandate_cells mandate_in what is_reading (is_mandate c.args.mandate.principal c.args.mandate.agent) (λ e. is_same_mandate e c.args.mandate) (agree c.args.mandate) c.args.stamp c.requires.moment old.now new.now turns)
