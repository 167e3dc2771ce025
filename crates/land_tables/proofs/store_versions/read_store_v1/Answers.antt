use Rattle.std.proofs.Common.{Ok, rules}
use Rattle.land_tables.proofs.Adopted.{first_found, has, lacks, missing_on}
use Rattle.land_tables.specs.Registers.{version_1}
use Rattle.land_tables_schema.proofs.Looking.{look_told}
use Rattle.land_tables_schema.specs.Schemas.{IsSchemaV1}
use Rattle.sqlite.specs.Held.{state}
use Rattle.land_tables.proofs.store_versions.read_store_v1.Goals as goal

pub returns-in_err-found-clause-refused : goal.returns-in_err-found-clause-refused
returns-in_err-found-clause-refused g c clean =
    missing_on version_1 (state g.S.Store c.args.conn.now).now c.from_residual.result c.in_err-found.field-0.0 c.from_residual.ensures.1 (c.in_err-found.ensures.missing clean)

pub returns-then-not-is_schema_v1-clause-refused : goal.returns-then-not-is_schema_v1-clause-refused
returns-then-not-is_schema_v1-clause-refused g c clean =
    let a = state g.S.Store c.args.conn.now in
    let b = state g.S.Store c.read_version_of_tables.new.conn in
    let none : ¬ IsSchemaV1 c.read_version_of_tables.new.conn.schema = search rules in
    lacks a b version_1 c.in_ok-found.found (c.in_ok-found.ensures.reads_only.given clean) (c.in_ok-found.ensures.reads_only.same clean).0.now_is none

pub returns-clause-reads_only : goal.returns-clause-reads_only
returns-clause-reads_only g c =
    let a = state g.S.Store c.args.conn.now in
    let b = state g.S.Store c.read_version_of_tables.new.conn in
    let there : IsSchemaV1 c.read_version_of_tables.new.conn.schema = search rules in
    look_told a b (Ok c.in_ok-found.found) c.in_ok-found.ensures.reads_only
    (λ clean first. record {
      made = has a b version_1 c.in_ok-found.found first (c.in_ok-found.ensures.reads_only.same clean).0.now_is there;
      finds = first_found a.now.trees c.in_ok-found.found first.finds;
    })
