use Rattle.std.proofs.Common.{◌≡◌, of_z, rules, to_z, w64}
use Rattle.land_tables_rows.proofs.Moments.{found, reads}
use Rattle.land_tables_rows.proofs.Tellings.{tells_more}
use Rattle.land_tables_rows.specs.Moment.Reading.{moment_row_in}
use Rattle.land_tables_schema.proofs.Steps.{step_says}
use Rattle.land_tables_schema.specs.Rows.Forms.{Appends}
use Rattle.land_tables_schema.specs.Rows.Moments.{Moment, moment_row}
use Rattle.land_tables_schema.specs.Steps.{IsTransactionStep}
use Rattle.land_tables_schema.specs.Tables as table
use Rattle.sqlite.specs.Held.{state}
use Rattle.land_tables_rows.proofs.moment.writing.insert.Goals as goal

pub returns-clause-step : goal.returns-clause-step
returns-clause-step g c =
    let old = state g.S.Store c.args.tx.now.conn.now in
    let new = state g.S.Store c.insert.new.tx.conn.now in
    let stamp : to_z w64 (of_z w64 c.args.stamp) ≡ c.args.stamp = search rules in
    let m : Moment = record { stamp = c.args.stamp; next = c.args.next } in
    let step : IsTransactionStep c.insert.result (Appends table.moments moment_row m) old new = rw (stamp) at c.insert.ensures.step in
    step_says old new c.insert.result step
    (λ clean appends. tells_more table.moments moment_row moment_row_in found m (record { stamp = c.args.stamp; next = c.args.next }) (reads m c.requires.moment c.requires.fits) old.now new.now appends)
