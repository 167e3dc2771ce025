use Rattle.std.proofs.Common.{of_z, rules, to_z, w64, ◌≡◌, ◌∷◌, []}
use Rattle.land_tables_schema.proofs.Rrrs.{closing, where_it_stands}
use Rattle.land_tables_schema.proofs.Steps.{statement_steps}
use Rattle.land_tables_schema.proofs.Versions.{close_terms, closes}
use Rattle.land_tables_schema.specs.Rows.Forms.{UpdatesRows}
use Rattle.land_tables_schema.specs.Rows.Rrr.{is_rrr, rrr_cells, rrr_form}
use Rattle.land_tables_schema.specs.Rows.Versions.{closed_version, whole}
use Rattle.land_tables_schema.specs.Tables.{rrr}
use Rattle.land_tables_schema.specs.declared.rows.tables.rrr.TheConstants.{CLOSE}
use Rattle.sqlite.specs.Held.{state}
use Rattle.land_tables_schema.proofs.rows.tables.rrr.close.Goals as goal

pub returns-clause-step : goal.returns-clause-step
returns-clause-step g c =
    let e = c.execute.ensures in
    let stamp : to_z w64 (of_z w64 c.args.stamp) ≡ c.args.stamp = search rules in
    statement_steps g.S.Store c.args.tx.now.conn.now c.execute.new.self.conn.now _ _ _ (UpdatesRows rrr_form (closed_version (is_rrr c.args.number) c.args.stamp)) c.execute.result e.ended e.runs e.survives
    (λ clean count ran. closes rrr 11 rrr_cells CLOSE.now 7 where_it_stands (close_terms 11 1) (whole c.args.number ∷ []) (is_rrr c.args.number) (closing c.args.number) (state g.S.Store c.args.tx.now.conn.now) (state g.S.Store c.execute.new.self.conn.now) c.args.stamp count
    (c.requires.has_tables clean) (rw (c.of_number.ensures, c.of_moment.ensures, stamp) at ran.0))
