use Rattle.std.proofs.Common.{◌≡◌, ℕ, of_z, rules, subst, to_z, w64}
use Rattle.land_core.specs.declared.mutation.MutationRecord.{MutationRecord}
use Rattle.land_tables_rows.proofs.MutationCells.{mutation_cells_decode}
use Rattle.land_tables_rows.proofs.Told.{begins}
use Rattle.land_tables_rows.specs.Mutation.Cells.{mutation_row_of}
use Rattle.land_tables_rows.specs.Mutation.Reading.{mutation_in}
use Rattle.land_tables_schema.proofs.Steps.{step_says}
use Rattle.land_tables_schema.specs.Rows.Forms.{InsertsVersion}
use Rattle.land_tables_schema.specs.Rows.Mutation.{mutation_form, mutation_cells, is_mutation, mutation_of}
use Rattle.land_tables_schema.specs.Rows.Versions.{opened_version}
use Rattle.land_tables_schema.specs.Steps.{IsTransactionStep}
use Rattle.land_tables_schema.specs.Tables as table
use Rattle.sqlite.specs.Held.{state}
use Rattle.land_tables_rows.proofs.mutation.writing.begin.Goals as goal

pub returns-clause-step : goal.returns-clause-step
returns-clause-step g c =
    let old = state g.S.Store c.args.tx.now.conn.now in
    let new = state g.S.Store c.begin.new.tx.conn.now in
    let since : to_z w64 (of_z w64 c.args.since) ≡ c.args.since = search rules in
    let e : ℕ × MutationRecord = (c.args.number, c.args.mutation.now) in
    let first : IsTransactionStep c.begin.result (InsertsVersion mutation_form (opened_version (mutation_of c.mutation_cells.result) c.args.since)) old new = rw (since) at c.begin.ensures.step in
    let step : IsTransactionStep c.begin.result (InsertsVersion mutation_form (opened_version (mutation_row_of e) c.args.since)) old new = subst (λ r. IsTransactionStep c.begin.result (InsertsVersion mutation_form (opened_version r c.args.since)) old new) c.mutation_cells.ensures.row first in
    let reads = c.mutations_read_back.ensures e c.args.since c.requires.fits c.content_is_exact.ensures c.requires.moment in
    step_says old new c.begin.result step (λ clean adds. begins table.mutation 8 mutation_cells mutation_in is_mutation mutation_cells_decode (mutation_row_of e) e c.args.since reads old.now new.now adds)
