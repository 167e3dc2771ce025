use Rattle.std.proofs.Common.{◌≡◌, of_z, rules, to_z, w64}
use Rattle.land_tables_rows.proofs.MutationCells.{mutation_cells_decode}
use Rattle.land_tables_rows.proofs.Told.{closes}
use Rattle.land_tables_rows.specs.Mutation.Reading.{mutation_in}
use Rattle.land_tables_schema.proofs.Steps.{step_says}
use Rattle.land_tables_schema.specs.Rows.Forms.{UpdatesRows}
use Rattle.land_tables_schema.specs.Rows.Mutation.{mutation_form, mutation_cells, is_mutation}
use Rattle.land_tables_schema.specs.Rows.Versions.{closed_version}
use Rattle.land_tables_schema.specs.Steps.{IsTransactionStep}
use Rattle.land_tables_schema.specs.Tables as table
use Rattle.sqlite.specs.Held.{state}
use Rattle.land_tables_rows.proofs.mutation.writing.close.Goals as goal

pub returns-clause-step : goal.returns-clause-step
returns-clause-step g c =
    let old = state g.S.Store c.args.tx.now.conn.now in
    let new = state g.S.Store c.close.new.tx.conn.now in
    let stamp : to_z w64 (of_z w64 c.args.stamp) ≡ c.args.stamp = search rules in
    let step : IsTransactionStep c.close.result (UpdatesRows mutation_form (closed_version (is_mutation c.args.number) c.args.stamp)) old new = rw (stamp) at c.close.ensures.step in
    step_says old new c.close.result step
    (λ clean turns. closes table.mutation 8 mutation_cells mutation_in is_mutation mutation_cells_decode c.args.number c.args.stamp c.requires.moment old.now new.now turns)
