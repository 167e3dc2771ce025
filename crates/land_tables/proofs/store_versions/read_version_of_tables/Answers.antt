use Rattle.std.proofs.Common.{Err, Ok, rules}
use Rattle.land_tables.proofs.Adopted.{missing_after, other_tables, to_found, to_missing, told_on}
use Rattle.land_tables.specs.Adopting.{IsNotOfVersion}
use Rattle.land_tables.specs.TableContents.{IsEditionOf}
use Rattle.land_tables_schema.proofs.KnownSchemas.{known_schemas}
use Rattle.land_tables_schema.proofs.Looking.{look_lost, look_told}
use Rattle.land_tables_schema.specs.Schemas.{MayBeRegisterSchema}
use Rattle.sqlite.specs.Held.{state}
use Rattle.land_tables.proofs.store_versions.read_version_of_tables.Goals as goal

pub returns-then-not-may_be_register_schema-clause-missing : goal.returns-then-not-may_be_register_schema-clause-missing
returns-then-not-may_be_register_schema-clause-missing g c clean =
    let none : ¬ MayBeRegisterSchema c.args.conn.now.schema = search rules in
    other_tables (state g.S.Store c.args.conn.now).now none

pub read_tables_v1-requires : goal.read_tables_v1-requires
read_tables_v1-requires g c clean =
    let has_tables : MayBeRegisterSchema c.args.conn.now.schema = search rules in
    known_schemas.tables c.args.conn.now.schema has_tables

pub returns-in_err-found-clause-missing : goal.returns-in_err-found-clause-missing
returns-in_err-found-clause-missing g c clean =
    missing_after c.args.version (state g.S.Store c.args.conn.now).now c.from_residual.result c.in_err-found.field-0.0 c.from_residual.ensures.1 (c.in_err-found.ensures.unreadable clean)

pub returns-in_err-check_edition-clause-reads_only : goal.returns-in_err-check_edition-clause-reads_only
returns-in_err-check_edition-clause-reads_only g c =
    look_lost (state g.S.Store c.args.conn.now) (state g.S.Store c.read_tables_v1.new.conn) c.from_residual-in_err-check_edition.result c.from_residual-in_err-check_edition.ensures.0 c.in_ok-found.ensures.reads_only

pub returns-in_err-check_edition-clause-missing : goal.returns-in_err-check_edition-clause-missing
returns-in_err-check_edition-clause-missing g c clean =
    let has_tables : MayBeRegisterSchema c.args.conn.now.schema = search rules in
    let is : IsEditionOf c.args.version c.in_ok-found.found.editions (Err c.in_err-check_edition.field-0.0) = search rules in
    let db = (state g.S.Store c.args.conn.now).now in
    told_on (λ why. IsNotOfVersion c.args.version why db) c.from_residual-in_err-check_edition.result c.in_err-check_edition.field-0.0 c.from_residual-in_err-check_edition.ensures.1
    (to_missing db has_tables c.in_ok-found.found (c.in_ok-found.ensures.reads_only.given clean) c.args.version c.in_err-check_edition.field-0.0 is)

pub returns-clause-reads_only : goal.returns-clause-reads_only
returns-clause-reads_only g c =
    let has_tables : MayBeRegisterSchema c.args.conn.now.schema = search rules in
    let is : IsEditionOf c.args.version c.in_ok-found.found.editions (Ok tt) = search rules in
    look_told (state g.S.Store c.args.conn.now) (state g.S.Store c.read_tables_v1.new.conn) (Ok c.in_ok-found.found) c.in_ok-found.ensures.reads_only
    (λ _ finds. to_found (state g.S.Store c.args.conn.now).now has_tables c.in_ok-found.found finds c.args.version is)
