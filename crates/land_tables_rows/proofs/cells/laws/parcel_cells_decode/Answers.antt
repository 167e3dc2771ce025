use Rattle.land_tables_rows.proofs.ParcelCells.{parcel_cells_decode}
use Rattle.land_tables_rows.proofs.cells.laws.parcel_cells_decode.Goals as goal

pub returns : goal.returns
returns c = parcel_cells_decode
