use Rattle.std.proofs.Common.{rules, ◌≡◌, ap₂, subst, to_z, of_z, w64, Ok, Some}
use Rattle.land_core.specs.declared.kind.Kind.TheVariants as kind
use Rattle.land_keep.specs.Sheets.{visible_entries, parcels_at}
use Rattle.land_select.proofs.Viewed.{have_members}
use Rattle.land_select.specs.Cache.{IsValueOf}
use Rattle.land_select.specs.Views.{AgreesIfGiven}
use Rattle.land_select_queries.specs.Lookups.Parts.{ReadsPart}
use Rattle.land_tables_rows.specs.declared.listing.fault.ReadFault.{ReadFault}
use Rattle.land_tables_schema.proofs.Looking.{look_fails, look_then, look_told}
use Rattle.land_tables_schema.specs.Rows.ReadQueries.{IsStoreRead}
use Rattle.sqlite.specs.Effect.{Database}
use Rattle.sqlite.specs.Held.{state}
use Rattle.land_select.proofs.view.view_with.Goals as goal

pub returns-in_err-rrrs-clause-reads_only : goal.returns-in_err-rrrs-clause-reads_only
returns-in_err-rrrs-clause-reads_only g c =
    look_fails (state g.S.Store c.args.conn.now) (state g.S.Store c.read_parcels.new.conn) (state g.S.Store c.read_named_entries.new.conn) c.from_residual-in_err-rrrs.result c.from_residual-in_err-rrrs.ensures.0 c.in_ok-parcels.ensures.reads_only c.in_err-rrrs.ensures.reads_only

pub returns-clause-reads_only : goal.returns-clause-reads_only
returns-clause-reads_only g c =
    let a = state g.S.Store c.args.conn.now in
    let caller = c.args.seen.caller in
    let unit = c.args.seen.unit in
    let t = c.args.seen.moment in
    let found = c.args.seen.found.now in
    let when : to_z w64 (of_z w64 t) ≡ t = search rules in
    let parcels = c.in_ok-parcels.parcels in
    let rrrs = c.in_ok-rrrs.rrrs in
    let both : IsStoreRead {X = Unit {0}} {E = ReadFault} (Ok tt) (λ _. ReadsPart (λ r. parcels_at r unit) t a.now.trees parcels × AgreesIfGiven (λ r. IsValueOf r caller kind.Unit unit found) (λ r. visible_entries r caller unit) t a.now.trees rrrs)
    a (state g.S.Store c.read_named_entries.new.conn) =
    look_then a (state g.S.Store c.read_parcels.new.conn) (state g.S.Store c.read_named_entries.new.conn) (rw when at c.in_ok-parcels.ensures.reads_only) (rw when at c.in_ok-rrrs.ensures.reads_only)
    (λ clean same one two. (one, subst (λ (now : Database). AgreesIfGiven (λ r. IsValueOf r caller kind.Unit unit found) (λ r. visible_entries r caller unit) t now.trees rrrs) same two)) in
    look_told a (state g.S.Store c.read_named_entries.new.conn) _ both
    (λ clean both moments h held r premise stands given.
    rw when (ap₂ (λ ps es. Some (record { unit = record { number = unit; name = c.args.unit_record.name; checked = c.args.unit_record.checked }; parcels = ps; rrrs = es; at = t }))
    (both.0 moments h held r (have_members c.soundness_by_number.ensures r premise) stands) (both.1 moments h held r premise stands given)))
