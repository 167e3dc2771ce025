use Rattle.land_tables_rows.proofs.MutationCells.{mutations_read_back}
use Rattle.land_tables_rows.proofs.cells.laws.mutations_read_back.Goals as goal

pub returns : goal.returns
returns c = mutations_read_back c.contents_round_trip.ensures
