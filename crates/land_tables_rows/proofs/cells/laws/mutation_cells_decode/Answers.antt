use Rattle.land_tables_rows.proofs.MutationCells.{mutation_cells_decode}
use Rattle.land_tables_rows.proofs.cells.laws.mutation_cells_decode.Goals as goal

pub returns : goal.returns
returns c = mutation_cells_decode
