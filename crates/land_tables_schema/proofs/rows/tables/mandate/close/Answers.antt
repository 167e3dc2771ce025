use Rattle.std.proofs.Common.{of_z, rules, to_z, w64, ◌≡◌, ◌∷◌, []}
use Rattle.land_tables_schema.proofs.Mandates.{closing, where_it_stands}
use Rattle.land_tables_schema.proofs.Steps.{statement_steps}
use Rattle.land_tables_schema.proofs.Versions.{close_terms, closes}
use Rattle.land_tables_schema.specs.Rows.Forms.{UpdatesRows}
use Rattle.land_tables_schema.specs.Rows.Mandate.{is_mandate, mandate_cells, mandate_form}
use Rattle.land_tables_schema.specs.Rows.Versions.{closed_version, whole}
use Rattle.land_tables_schema.specs.Tables as table
use Rattle.land_tables_schema.specs.declared.rows.tables.mandate.TheConstants.{CLOSE}
use Rattle.sqlite.specs.Held.{state}
use Rattle.land_tables_schema.proofs.rows.tables.mandate.close.Goals as goal

pub returns-clause-step : goal.returns-clause-step
returns-clause-step g c =
    let e = c.execute.ensures in
    let stamp : to_z w64 (of_z w64 c.args.stamp) ≡ c.args.stamp = search rules in
    statement_steps g.S.Store c.args.tx.now.conn.now c.execute.new.self.conn.now _ _ _ (UpdatesRows mandate_form (closed_version (is_mandate c.args.principal c.args.agent) c.args.stamp)) c.execute.result e.ended e.runs e.survives
    (λ clean count ran. closes table.mandate 2 mandate_cells CLOSE.now 11 where_it_stands (close_terms 2 2) (whole c.args.principal ∷ whole c.args.agent ∷ []) (is_mandate c.args.principal c.args.agent) (closing c.args.principal c.args.agent) (state g.S.Store c.args.tx.now.conn.now) (state g.S.Store c.execute.new.self.conn.now) c.args.stamp count
    (c.requires.has_tables clean) (rw (c.of_number.ensures, c.of_number-2.ensures, c.of_moment.ensures, stamp) at ran.0))
