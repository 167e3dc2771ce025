use Rattle.std.proofs.Common.{◌≡◌, of_z, rules, to_z, w64}
use Rattle.land_tables_rows.proofs.Lives.{begins}
use Rattle.land_tables_rows.proofs.Members.{is_reading, row_of, what, what_is}
use Rattle.land_tables_rows.specs.Member.Reading.{member_in}
use Rattle.land_tables_schema.proofs.Steps.{step_says}
use Rattle.land_tables_schema.specs.Rows.Forms.{InsertsVersion}
use Rattle.land_tables_schema.specs.Rows.Member.{member_form, member_cells}
use Rattle.land_tables_schema.specs.Rows.Versions.{opened_version}
use Rattle.land_tables_schema.specs.Steps.{IsTransactionStep}
use Rattle.land_tables_schema.specs.Tables as table
use Rattle.sqlite.specs.Held.{state}
use Rattle.land_tables_rows.proofs.member.writing.begin.Goals as goal

pub returns-clause-step : goal.returns-clause-step
returns-clause-step g c =
    let old = state g.S.Store c.args.tx.now.conn.now in
    let new = state g.S.Store c.begin.new.tx.conn.now in
    let since : to_z w64 (of_z w64 c.args.since) ≡ c.args.since = search rules in
    let step : IsTransactionStep c.begin.result (InsertsVersion member_form (opened_version (row_of c.args.entry.now) c.args.since)) old new = rw (c.numerator-numerator.ensures.value, c.denominator-denominator.ensures.value, since) at c.begin.ensures.step in
    let reads = what_is c.args.entry.now c.requires.fits c.numerator-numerator.ensures.lowest in
    step_says old new c.begin.result step (λ clean adds. begins table.member 4 member_cells member_in what is_reading (row_of c.args.entry.now) c.args.entry.now c.args.since reads c.requires.moment old.now new.now adds)
