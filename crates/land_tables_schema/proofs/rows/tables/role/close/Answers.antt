use Rattle.std.proofs.Common.{of_z, rules, to_z, w64, ◌≡◌, ◌∷◌, []}
use Rattle.land_tables_schema.proofs.Roles.{closing, where_it_stands}
use Rattle.land_tables_schema.proofs.Steps.{statement_steps}
use Rattle.land_tables_schema.proofs.Versions.{close_terms, closes}
use Rattle.land_tables_schema.specs.Rows.Forms.{UpdatesRows}
use Rattle.land_tables_schema.specs.Rows.Role.{is_grant, role_cells, role_form}
use Rattle.land_tables_schema.specs.Rows.Versions.{closed_version, whole}
use Rattle.land_tables_schema.specs.Tables as table
use Rattle.land_tables_schema.specs.declared.rows.tables.role.TheConstants.{CLOSE}
use Rattle.sqlite.specs.Held.{state}
use Rattle.sqlite_value.specs.declared.value.Value.TheVariants.{Text}
use Rattle.land_tables_schema.proofs.rows.tables.role.close.Goals as goal

pub returns-clause-step : goal.returns-clause-step
returns-clause-step g c =
    let e = c.execute.ensures in
    let stamp : to_z w64 (of_z w64 c.args.stamp) ≡ c.args.stamp = search rules in
    statement_steps g.S.Store c.args.tx.now.conn.now c.execute.new.self.conn.now _ _ _ (UpdatesRows role_form (closed_version (is_grant c.args.party c.args.role.now) c.args.stamp)) c.execute.result e.ended e.runs e.survives
    (λ clean count ran. closes table.role 2 role_cells CLOSE.now 3 where_it_stands (close_terms 2 2) (whole c.args.party ∷ Text c.args.role.now ∷ []) (is_grant c.args.party c.args.role.now) (closing c.args.party c.args.role.now) (state g.S.Store c.args.tx.now.conn.now) (state g.S.Store c.execute.new.self.conn.now) c.args.stamp count
    (c.requires.has_tables clean) (rw (c.of_number.ensures, c.of_text.ensures, c.of_moment.ensures, stamp) at ran.0))
