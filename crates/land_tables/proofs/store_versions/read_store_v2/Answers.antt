use Rattle.std.proofs.Common.{rules, subst, sym}
use Rattle.land_tables.proofs.Adopted.{has, lacks, made_by, missing_on, refused_after, with_mandates_found}
use Rattle.land_tables.specs.TableContents.{ReadsMandates, Finds}
use Rattle.land_tables.specs.Registers.{version_2}
use Rattle.land_tables_rows.specs.Listing.Reading.{UnreadableOnlyIfNone, Says, mandates}
use Rattle.land_tables_schema.proofs.Looking.{look_fails, look_then, was_clean}
use Rattle.land_tables_schema.specs.Schemas.{IsSchemaV2}
use Rattle.sqlite.specs.Held.{state}
use Rattle.land_tables.proofs.store_versions.read_store_v2.Goals as goal

pub returns-in_err-first-clause-refused : goal.returns-in_err-first-clause-refused
returns-in_err-first-clause-refused g c clean =
    missing_on version_2 (state g.S.Store c.args.conn.now).now c.from_residual.result c.in_err-first.field-0.0 c.from_residual.ensures.1 (c.in_err-first.ensures.missing clean)

pub returns-then-not-is_schema_v2-clause-refused : goal.returns-then-not-is_schema_v2-clause-refused
returns-then-not-is_schema_v2-clause-refused g c clean =
    let a = state g.S.Store c.args.conn.now in
    let b = state g.S.Store c.read_version_of_tables.new.conn in
    let none : ¬ IsSchemaV2 c.read_version_of_tables.new.conn.schema = search rules in
    lacks a b version_2 c.in_ok-first.first (c.in_ok-first.ensures.reads_only.given clean) (c.in_ok-first.ensures.reads_only.same clean).0.now_is (λ has. none has.has_tables)

pub returns-in_err-mandates-clause-reads_only : goal.returns-in_err-mandates-clause-reads_only
returns-in_err-mandates-clause-reads_only g c =
    let a = state g.S.Store c.args.conn.now in
    let b = state g.S.Store c.read_version_of_tables.new.conn in
    look_fails a b (state g.S.Store c.read_mandates.new.conn) c.from_residual-in_err-mandates.result c.from_residual-in_err-mandates.ensures.0 c.in_ok-first.ensures.reads_only c.in_err-mandates.ensures.reads_only

pub returns-in_err-mandates-clause-refused : goal.returns-in_err-mandates-clause-refused
returns-in_err-mandates-clause-refused g c clean =
    let a = state g.S.Store c.args.conn.now in
    let b = state g.S.Store c.read_version_of_tables.new.conn in
    let d = state g.S.Store c.read_mandates.new.conn in
    let was = was_clean b d c.in_err-mandates.ensures.reads_only.survives clean in
    let same = (c.in_ok-first.ensures.reads_only.same was).0.now_is in
    refused_after a.now c.from_residual-in_err-mandates.result c.in_err-mandates.field-0.0 c.from_residual-in_err-mandates.ensures.1
    (made_by 2 a.now c.in_ok-first.first (c.in_ok-first.ensures.reads_only.given was)) (subst (λ db. UnreadableOnlyIfNone (Says mandates db.trees) c.in_err-mandates.field-0.0) same (c.in_err-mandates.ensures.unreadable clean))

pub returns-clause-reads_only : goal.returns-clause-reads_only
returns-clause-reads_only g c =
    let a = state g.S.Store c.args.conn.now in
    let b = state g.S.Store c.read_version_of_tables.new.conn in
    let d = state g.S.Store c.read_mandates.new.conn in
    let has_tables : IsSchemaV2 c.read_version_of_tables.new.conn.schema = search rules in
    let first = c.in_ok-first.first in
    let listed = c.in_ok-mandates.mandates in
    look_then a b d c.in_ok-first.ensures.reads_only c.in_ok-mandates.ensures.reads_only
    (λ clean same found all_exist.
    let here : ReadsMandates a.now.trees listed = subst (λ db. ReadsMandates db.trees listed) same all_exist in
    record {
      made = has a b version_2 first found same (record { has_tables = has_tables; listed = listed; said = all_exist.said });
      finds = subst (Finds a.now.trees) (sym c.add_mandates.ensures) (with_mandates_found a.now.trees first listed found.finds here);
    })
