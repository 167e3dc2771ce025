use Rattle.land_tables_rows.proofs.WordReadings.{words_are_read}
use Rattle.land_tables_rows.proofs.cells.laws.words_are_read.Goals as goal

pub returns : goal.returns
returns c = words_are_read
