use Rattle.land_tables_rows.proofs.RrrCells.{rrrs_read_back}
use Rattle.land_tables_rows.proofs.cells.laws.rrrs_read_back.Goals as goal

pub returns : goal.returns
returns c = rrrs_read_back c.fractions_stay.ensures
