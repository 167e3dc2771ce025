use Rattle.land_tables_rows.proofs.RrrCells.{rrr_cells_decode}
use Rattle.land_tables_rows.proofs.cells.laws.rrr_cells_decode.Goals as goal

pub returns : goal.returns
returns c = rrr_cells_decode
