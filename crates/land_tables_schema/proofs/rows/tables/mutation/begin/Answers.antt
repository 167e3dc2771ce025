use Rattle.std.proofs.Common.{of_z, rules, to_z, w64, ◌≡◌}
use Rattle.land_tables_schema.proofs.Mutations.{beginning}
use Rattle.land_tables_schema.proofs.Steps.{statement_steps}
use Rattle.land_tables_schema.proofs.Versions.{begins}
use Rattle.land_tables_schema.specs.Rows.Forms.{InsertsVersion}
use Rattle.land_tables_schema.specs.Rows.Mutation.{MutationRow, mutation_cells, mutation_of, mutation_form}
use Rattle.land_tables_schema.specs.Rows.Versions.{opened_version}
use Rattle.land_tables_schema.specs.Tables.{mutation}
use Rattle.land_tables_schema.specs.declared.rows.tables.mutation.TheConstants.{BEGIN}
use Rattle.sqlite.specs.Held.{state}
use Rattle.land_tables_schema.proofs.rows.tables.mutation.begin.Goals as goal

pub returns-clause-step : goal.returns-clause-step
returns-clause-step g c =
    let e = c.execute.ensures in
    let since : to_z w64 (of_z w64 c.args.since) ≡ c.args.since = search rules in
    let lodged : to_z w64 (of_z w64 c.args.cells.lodged) ≡ c.args.cells.lodged = search rules in
    let row : MutationRow = mutation_of c.args.cells in
    statement_steps g.S.Store c.args.tx.now.conn.now c.execute.new.self.conn.now _ _ _ (InsertsVersion mutation_form (opened_version row c.args.since)) c.execute.result e.ended e.runs e.survives
    (λ clean count ran. begins mutation mutation_cells BEGIN.now 9 8 beginning (state g.S.Store c.args.tx.now.conn.now) (state g.S.Store c.execute.new.self.conn.now) row c.args.since count (c.requires.has_tables clean)
    (rw (c.of_number.ensures, c.of_number-2.ensures, c.of_text.ensures, c.of_number-3.ensures, c.of_moment.ensures, c.of_text-2.ensures, c.of_text-3.ensures, c.of_text-4.ensures, c.of_moment-2.ensures, lodged, since) at ran.0))
