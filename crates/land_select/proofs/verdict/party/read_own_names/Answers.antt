use Rattle.std.proofs.Common.{rules, ◌≡◌, to_z, of_z, w64, sym, Ok, ◌∙◌}
use Rattle.land_select.proofs.Judged.{looked_at_nothing}
use Rattle.land_select.proofs.ReadQueries.{look_means}
use Rattle.land_select.proofs.PartySight.{own_of_citizen, own_of_other}
use Rattle.land_tables_rows.specs.declared.listing.fault.ReadFault.{ReadFault}
use Rattle.land_tables_schema.proofs.Looking.{look_lost}
use Rattle.land_tables_schema.specs.Rows.ReadQueries.{IsStoreRead}
use Rattle.sqlite.specs.Held.{state}
use Rattle.land_select.proofs.verdict.party.read_own_names.Goals as goal

pub returns-then-is_citizen-clause-reads_only : goal.returns-then-is_citizen-clause-reads_only
returns-then-is_citizen-clause-reads_only g c =
    let when : to_z w64 (of_z w64 c.args.at) ≡ c.args.at = search rules in
    let reads_only = rw when at c.read_names.ensures.reads_only in
    look_means (state g.S.Store c.args.conn.now) (state g.S.Store c.read_names.new.conn) c.read_names.result reads_only
    (λ it are moments h held r stands. own_of_citizen r c.args.caller it (sym c.is_citizen.ensures ∙ c.if-is_citizen.true) (are moments h held r stands))

pub returns-clause-reads_only : goal.returns-clause-reads_only
returns-clause-reads_only g c =
    looked_at_nothing _ _ (state g.S.Store c.args.conn.now) c.requires.open
    (λ clean moments h held r stands. own_of_other r c.args.caller _ (sym c.is_citizen.ensures ∙ c.if-is_citizen.false) c.in_ok-of_one.ensures)

pub returns-in_err-of_one-clause-reads_only : goal.returns-in_err-of_one-clause-reads_only
returns-in_err-of_one-clause-reads_only g c =
    let a = state g.S.Store c.args.conn.now in
    let none : IsStoreRead {X = Unit {0}} {E = ReadFault} (Ok tt) (λ _. Unit {0}) a a = looked_at_nothing tt (λ _. Unit {0}) a c.requires.open (λ _. tt) in
    look_lost a a c.from_residual.result c.from_residual.ensures.0 none
