use Rattle.land_tables_rows.proofs.reading.cells.reference_at.Goals as goal

pub returns : goal.returns
returns c = c.label_at.ensures
