use Rattle.land_tables_rows.proofs.Editions.{found, reads}
use Rattle.land_tables_rows.proofs.Tellings.{tells_more}
use Rattle.land_tables_rows.specs.Edition.Reading.{edition_in}
use Rattle.land_tables_rows.specs.Edition.Writing as edition
use Rattle.land_tables_schema.proofs.Steps.{step_says}
use Rattle.land_tables_schema.specs.Rows.Edition.{v2_edition, edition_row}
use Rattle.land_tables_schema.specs.Tables as table
use Rattle.sqlite.specs.Held.{state}
use Rattle.land_tables_rows.proofs.edition.writing.insert.Goals as goal

pub returns-clause-step : goal.returns-clause-step
returns-clause-step g c =
    let old = state g.S.Store c.args.tx.now.conn.now in
    let new = state g.S.Store c.insert.new.tx.conn.now in
    step_says old new c.insert.result c.insert.ensures.step
    (λ clean appends. tells_more table.edition edition_row edition_in found v2_edition edition.v2_edition reads old.now new.now appends)
