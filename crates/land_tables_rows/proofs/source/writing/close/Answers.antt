use Rattle.std.proofs.Common.{◌≡◌, nat_eq, of_z, rules, to_z, w64}
use Rattle.land_tables_rows.proofs.Lives.{closes}
use Rattle.land_tables_rows.proofs.Sources.{agree, is_reading, what}
use Rattle.land_tables_rows.specs.Source.Reading.{source_in}
use Rattle.land_tables_schema.proofs.Steps.{step_says}
use Rattle.land_tables_schema.specs.Rows.Forms.{UpdatesRows}
use Rattle.land_tables_schema.specs.Rows.Source.{source_form, source_cells, is_source}
use Rattle.land_tables_schema.specs.Rows.Versions.{closed_version}
use Rattle.land_tables_schema.specs.Steps.{IsTransactionStep}
use Rattle.land_tables_schema.specs.Tables as table
use Rattle.sqlite.specs.Held.{state}
use Rattle.land_tables_rows.proofs.source.writing.close.Goals as goal

pub returns-clause-step : goal.returns-clause-step
returns-clause-step g c =
    let old = state g.S.Store c.args.tx.now.conn.now in
    let new = state g.S.Store c.close.new.tx.conn.now in
    let stamp : to_z w64 (of_z w64 c.args.stamp) ≡ c.args.stamp = search rules in
    let step : IsTransactionStep c.close.result (UpdatesRows source_form (closed_version (is_source c.args.number) c.args.stamp)) old new = rw (stamp) at c.close.ensures.step in
    step_says old new c.close.result step
    (λ clean turns. closes table.source 3 source_cells source_in what is_reading (is_source c.args.number) (λ e. nat_eq e.0 c.args.number) (agree c.args.number) c.args.stamp c.requires.moment old.now new.now turns)
