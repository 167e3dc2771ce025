use Rattle.land_tables_rows.proofs.ParcelCells.{parcels_read_back}
use Rattle.land_tables_rows.proofs.cells.laws.parcels_read_back.Goals as goal

pub returns : goal.returns
returns c = parcels_read_back c.printed_rings.ensures c.one_answer.ensures c.outlines_are_answered.ensures c.fractions_stay.ensures
