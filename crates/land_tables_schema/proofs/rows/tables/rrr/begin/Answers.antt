use Rattle.std.proofs.Common.{of_z, rules, to_z, w64, ◌≡◌}
use Rattle.std.specs.Option.{option_map}
use Rattle.land_tables_schema.proofs.Casts.{bound_text_or_null, bound_whole_or_null}
use Rattle.land_tables_schema.proofs.Rrrs.{beginning}
use Rattle.land_tables_schema.proofs.Steps.{statement_steps}
use Rattle.land_tables_schema.proofs.Versions.{begins}
use Rattle.land_tables_schema.specs.Rows.Forms.{InsertsVersion}
use Rattle.land_tables_schema.specs.Rows.Rrr.{RrrRow, rrr_cells, rrr_of, rrr_form}
use Rattle.land_tables_schema.specs.Rows.Versions.{opened_version}
use Rattle.land_tables_schema.specs.Tables.{rrr}
use Rattle.land_tables_schema.specs.declared.rows.tables.rrr.TheConstants.{BEGIN}
use Rattle.sqlite.specs.Held.{state}
use Rattle.land_tables_schema.proofs.rows.tables.rrr.begin.Goals as goal

pub returns-clause-step : goal.returns-clause-step
returns-clause-step g c =
    let e = c.execute.ensures in
    let since : to_z w64 (of_z w64 c.args.since) ≡ c.args.since = search rules in
    let a = c.args.cells in
    let row : RrrRow = rrr_of c.args.cells in
    statement_steps g.S.Store c.args.tx.now.conn.now c.execute.new.self.conn.now _ _ _ (InsertsVersion rrr_form (opened_version row c.args.since)) c.execute.result e.ended e.runs e.survives
    (λ clean count ran. begins rrr rrr_cells BEGIN.now 7 11 beginning (state g.S.Store c.args.tx.now.conn.now) (state g.S.Store c.execute.new.self.conn.now) row c.args.since count (c.requires.has_tables clean)
    (rw (
      c.of_number.ensures,
      c.of_number-2.ensures,
      c.of_number-3.ensures,
      c.of_text.ensures,
      c.of_number_or_null.ensures,
      c.of_number_or_null-2.ensures,
      c.of_number_or_null-3.ensures,
      c.of_text_or_null.ensures,
      c.of_number_or_null-4.ensures,
      c.of_text_or_null-2.ensures,
      c.of_number-4.ensures,
      c.of_moment.ensures,
      bound_whole_or_null a.num,
      bound_whole_or_null a.den,
      bound_whole_or_null a.amount,
      bound_text_or_null (option_map (λ t. t.now) a.currency),
      bound_whole_or_null a.place,
      bound_text_or_null (option_map (λ t. t.now) a.words),
      since,
    ) at ran.0))
