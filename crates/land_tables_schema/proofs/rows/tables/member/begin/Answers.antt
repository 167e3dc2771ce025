use Rattle.std.proofs.Common.{of_z, rules, to_z, w64, ◌≡◌}
use Rattle.land_tables_schema.proofs.Members.{beginning}
use Rattle.land_tables_schema.proofs.Steps.{statement_steps}
use Rattle.land_tables_schema.proofs.Versions.{begins}
use Rattle.land_tables_schema.specs.Rows.Forms.{InsertsVersion}
use Rattle.land_tables_schema.specs.Rows.Member.{MemberRow, member_cells, member_form}
use Rattle.land_tables_schema.specs.Rows.Versions.{opened_version}
use Rattle.land_tables_schema.specs.Tables.{member}
use Rattle.land_tables_schema.specs.declared.rows.tables.member.TheConstants.{BEGIN}
use Rattle.sqlite.specs.Held.{state}
use Rattle.land_tables_schema.proofs.rows.tables.member.begin.Goals as goal

pub returns-clause-step : goal.returns-clause-step
returns-clause-step g c =
    let e = c.execute.ensures in
    let since : to_z w64 (of_z w64 c.args.since) ≡ c.args.since = search rules in
    let row : MemberRow = record { grp = c.args.grp; party = c.args.party; num = c.args.num; den = c.args.den } in
    statement_steps g.S.Store c.args.tx.now.conn.now c.execute.new.self.conn.now _ _ _ (InsertsVersion member_form (opened_version row c.args.since)) c.execute.result e.ended e.runs e.survives
    (λ clean count ran. begins member member_cells BEGIN.now 4 4 beginning (state g.S.Store c.args.tx.now.conn.now) (state g.S.Store c.execute.new.self.conn.now) row c.args.since count (c.requires.has_tables clean)
    (rw (c.of_number.ensures, c.of_number-2.ensures, c.of_number-3.ensures, c.of_number-4.ensures, c.of_moment.ensures, since) at ran.0))
