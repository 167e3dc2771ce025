use Rattle.std.proofs.Common.{of_z, rules, to_z, w64, ◌≡◌}
use Rattle.land_tables_schema.proofs.Roles.{beginning}
use Rattle.land_tables_schema.proofs.Steps.{statement_steps}
use Rattle.land_tables_schema.proofs.Versions.{begins}
use Rattle.land_tables_schema.specs.Rows.Forms.{InsertsVersion}
use Rattle.land_tables_schema.specs.Rows.Role.{RoleRow, role_cells, role_form}
use Rattle.land_tables_schema.specs.Rows.Versions.{opened_version}
use Rattle.land_tables_schema.specs.Tables as table
use Rattle.land_tables_schema.specs.declared.rows.tables.role.TheConstants.{BEGIN}
use Rattle.sqlite.specs.Held.{state}
use Rattle.land_tables_schema.proofs.rows.tables.role.begin.Goals as goal

pub returns-clause-step : goal.returns-clause-step
returns-clause-step g c =
    let e = c.execute.ensures in
    let since : to_z w64 (of_z w64 c.args.since) ≡ c.args.since = search rules in
    let row : RoleRow = record { party = c.args.party; role = c.args.role.now } in
    statement_steps g.S.Store c.args.tx.now.conn.now c.execute.new.self.conn.now _ _ _ (InsertsVersion role_form (opened_version row c.args.since)) c.execute.result e.ended e.runs e.survives
    (λ clean count ran. begins table.role role_cells BEGIN.now 3 2 beginning (state g.S.Store c.args.tx.now.conn.now) (state g.S.Store c.execute.new.self.conn.now) row c.args.since count (c.requires.has_tables clean)
    (rw (c.of_number.ensures, c.of_text.ensures, c.of_moment.ensures, since) at ran.0))
