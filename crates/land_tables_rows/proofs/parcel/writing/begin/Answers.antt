use Rattle.std.proofs.Common.{◌≡◌, ℕ, of_z, rules, subst, to_z, w64}
use Rattle.land_core.specs.declared.parcel.ParcelRecord.{ParcelRecord}
use Rattle.land_tables_rows.proofs.ParcelCells.{parcel_cells_decode}
use Rattle.land_tables_rows.proofs.Told.{begins}
use Rattle.land_tables_rows.specs.Parcel.Cells.{parcel_row_of}
use Rattle.land_tables_rows.specs.Parcel.Cells.{parcel_row_of_cells}
use Rattle.land_tables_rows.specs.Parcel.Reading.{parcel_in}
use Rattle.land_tables_schema.proofs.Steps.{step_says}
use Rattle.land_tables_schema.specs.Rows.Forms.{InsertsVersion}
use Rattle.land_tables_schema.specs.Rows.Parcel.{parcel_form, parcel_cells, is_parcel}
use Rattle.land_tables_schema.specs.Rows.Versions.{opened_version}
use Rattle.land_tables_schema.specs.Steps.{IsTransactionStep}
use Rattle.land_tables_schema.specs.Tables as table
use Rattle.sqlite.specs.Held.{state}
use Rattle.land_tables_rows.proofs.parcel.writing.begin.Goals as goal

pub returns-clause-step : goal.returns-clause-step
returns-clause-step g c =
    let old = state g.S.Store c.args.tx.now.conn.now in
    let new = state g.S.Store c.begin.new.tx.conn.now in
    let since : to_z w64 (of_z w64 c.args.since) ≡ c.args.since = search rules in
    let e : ℕ × ParcelRecord = (c.args.number, c.args.parcel.now) in
    let first : IsTransactionStep c.begin.result (InsertsVersion parcel_form (opened_version (parcel_row_of_cells c.in_ok-cells.cells) c.args.since)) old new = rw (c.as_str.ensures.value, since) at c.begin.ensures.step in
    let step : IsTransactionStep c.begin.result (InsertsVersion parcel_form (opened_version (parcel_row_of e) c.args.since)) old new = subst (λ r. IsTransactionStep c.begin.result (InsertsVersion parcel_form (opened_version r c.args.since)) old new) c.in_ok-cells.ensures.row first in
    let reads = c.parcels_read_back.ensures e c.args.since c.requires.fits c.points.ensures.sound c.requires.moment in
    step_says old new c.begin.result step (λ clean adds. begins table.parcel 5 parcel_cells parcel_in is_parcel parcel_cells_decode (parcel_row_of e) e c.args.since reads old.now new.now adds)
