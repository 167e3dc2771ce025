use Rattle.std.proofs.Common.{rules, ◌≡◌, to_z, of_z, w64, nat_eq}
use Rattle.land_core.specs.Entries.{entries_where}
use Rattle.land_select_queries.proofs.Parts.{part_found}
use Rattle.land_select_queries.proofs.Records.{are_wanted, none_said}
use Rattle.land_select_queries.specs.declared.lookups.record_lookup.RecordLookup.TheVariants.{ParcelsOfUnit}
use Rattle.land_tables_schema.proofs.Looking.{look_told}
use Rattle.sqlite.specs.Held.{state}
use Rattle.land_select_queries.proofs.lookups.of_unit.parcels.Goals as goal

pub returns-clause-reads_only : goal.returns-clause-reads_only
returns-clause-reads_only g c =
    let old = state g.S.Store c.args.conn.now in
    let when : to_z w64 (of_z w64 c.args.at) ≡ c.args.at = search rules in
    let reads_only = rw when at c.in_ok-found.ensures.reads_only in
    let made = rw (when, c.as_slice.ensures) at c.in_ok-part_at.ensures.stands in
    look_told old (state g.S.Store c.find.new.conn) _ reads_only
    (λ clean said moments h held r have stands.
    made (entries_where (λ n p. nat_eq p.unit c.args.unit) r.parcels) (part_found c.args.at (λ n p. nat_eq p.unit c.args.unit) h.parcels r.parcels stands.parcels c.in_ok-found.found (are_wanted ParcelsOfUnit c.args.unit c.args.at old.now.trees h.parcels held.the_parcels.said c.in_ok-found.found said)))

pub returns-in_err-found-clause-unreadable : goal.returns-in_err-found-clause-unreadable
returns-in_err-found-clause-unreadable g c clean =
    let when : to_z w64 (of_z w64 c.args.at) ≡ c.args.at = search rules in
    none_said ParcelsOfUnit c.args.unit c.args.at _ (λ h. h.parcels) (λ moments h held. held.the_parcels.said) c.from_residual.result c.in_err-found.field-0.0 c.from_residual.ensures.1 (rw when at (c.in_err-found.ensures.unreadable clean))
