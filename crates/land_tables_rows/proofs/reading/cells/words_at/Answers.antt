use Rattle.land_tables_rows.proofs.reading.cells.words_at.Goals as goal

pub returns : goal.returns
returns c = c.name_at.ensures
