use Rattle.std.proofs.Common.{◌≡◌, of_z, rules, subst, to_z, w64}
use Rattle.std.specs.Str.{IsUtf8}
use Rattle.land_tables_rows.proofs.Lives.{begins}
use Rattle.land_tables_rows.proofs.Parties.{is_reading, row_of, what, what_is}
use Rattle.land_tables_rows.specs.Party.Reading.{party_in}
use Rattle.land_tables_schema.proofs.Steps.{step_says}
use Rattle.land_tables_schema.specs.Rows.Forms.{InsertsVersion}
use Rattle.land_tables_schema.specs.Rows.Party.{party_form, party_cells}
use Rattle.land_tables_schema.specs.Rows.Versions.{opened_version}
use Rattle.land_tables_schema.specs.Steps.{IsTransactionStep}
use Rattle.land_tables_schema.specs.Tables as table
use Rattle.sqlite.specs.Held.{state}
use Rattle.land_tables_rows.proofs.party.writing.begin.Goals as goal

pub returns-clause-step : goal.returns-clause-step
returns-clause-step g c =
    let old = state g.S.Store c.args.tx.now.conn.now in
    let new = state g.S.Store c.begin.new.tx.conn.now in
    let since : to_z w64 (of_z w64 c.args.since) ≡ c.args.since = search rules in
    let number = c.args.number in
    let p = c.args.party.now in
    let step : IsTransactionStep c.begin.result (InsertsVersion party_form (opened_version (row_of number p) c.args.since)) old new = rw (c.as_str.ensures, c.party_word.ensures, since) at c.begin.ensures.step in
    let reads = what_is number p c.requires.fits (subst IsUtf8 c.as_str.ensures c.as_str.utf8) (subst IsUtf8 c.party_word.ensures c.party_word.utf8) in
    step_says old new c.begin.result step (λ clean adds. begins table.party 3 party_cells party_in what is_reading (row_of number p) (number, p) c.args.since reads c.requires.moment old.now new.now adds)
