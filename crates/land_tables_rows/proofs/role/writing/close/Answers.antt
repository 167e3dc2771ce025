use Rattle.std.proofs.Common.{◌≡◌, of_z, rules, to_z, w64}
use Rattle.land_core.specs.Words.{role_word}
use Rattle.land_tables_history.specs.Intervals.{is_same_grant}
use Rattle.land_tables_rows.proofs.Lives.{closes}
use Rattle.land_tables_rows.proofs.Roles.{agree, is_reading, what}
use Rattle.land_tables_rows.specs.Role.Reading.{role_grant_in}
use Rattle.land_tables_schema.proofs.Steps.{step_says}
use Rattle.land_tables_schema.specs.Rows.Forms.{UpdatesRows}
use Rattle.land_tables_schema.specs.Rows.Role.{role_form, role_cells, is_grant}
use Rattle.land_tables_schema.specs.Rows.Versions.{closed_version}
use Rattle.land_tables_schema.specs.Steps.{IsTransactionStep}
use Rattle.land_tables_schema.specs.Tables as table
use Rattle.sqlite.specs.Held.{state}
use Rattle.land_tables_rows.proofs.role.writing.close.Goals as goal

pub returns-clause-step : goal.returns-clause-step
returns-clause-step g c =
    let old = state g.S.Store c.args.tx.now.conn.now in
    let new = state g.S.Store c.close.new.tx.conn.now in
    let stamp : to_z w64 (of_z w64 c.args.stamp) ≡ c.args.stamp = search rules in
    let step : IsTransactionStep c.close.result (UpdatesRows role_form (closed_version (is_grant c.args.grant.party (role_word c.args.grant.role)) c.args.stamp)) old new = rw (c.role_word.ensures, stamp) at c.close.ensures.step in
    step_says old new c.close.result step
    (λ clean turns. closes table.role 2 role_cells role_grant_in what is_reading (is_grant c.args.grant.party (role_word c.args.grant.role)) (λ e. is_same_grant e c.args.grant) (agree c.args.grant) c.args.stamp c.requires.moment old.now new.now turns)
