use Rattle.std.proofs.Common.{rules, ◌≡◌, ◌&&◌, nat_eq, subst, to_z, of_z, w64, Ok}
use Rattle.land_acts.specs.Slices.{names_rrr}
use Rattle.land_core.specs.Entries.{entries_where, some}
use Rattle.land_select.proofs.SlicedRegisters.{sliced}
use Rattle.land_select_queries.specs.Lookups.Parts.{ReadsPart}
use Rattle.land_tables_rows.specs.declared.listing.fault.ReadFault.{ReadFault}
use Rattle.land_tables_schema.proofs.Looking.{look_then, look_told}
use Rattle.land_tables_schema.specs.Rows.ReadQueries.{IsStoreRead}
use Rattle.sqlite.specs.Effect.{Database}
use Rattle.sqlite.specs.Held.{state}
use Rattle.land_select.proofs.slices.slice.slice_with.Goals as goal

pub returns-clause-reads_only : goal.returns-clause-reads_only
returns-clause-reads_only g c =
    let a = state g.S.Store c.args.conn.now in
    let d = state g.S.Store c.read_lifted_entry.new.conn in
    let t = c.args.at in
    let act = c.args.act.now in
    let known = c.args.known in
    let parts = c.args.parts in
    let sources = c.in_ok-sources.sources in
    let lifted = c.in_ok-lifted.lifted in
    let when : to_z w64 (of_z w64 t) ≡ t = search rules in
    let both : IsStoreRead {X = Unit {0}} {E = ReadFault} (Ok tt) (λ _. ReadsPart (λ r. entries_where (λ n s. parts.sources && some (λ k m. nat_eq m.source n) known.mutations) r.sources) t a.now.trees sources
    × ReadsPart (λ r. entries_where (λ n e. names_rrr r act n) r.rrrs) t a.now.trees lifted) a d =
    look_then a (state g.S.Store c.read_sources.new.conn) d (rw when at c.in_ok-sources.ensures.reads_only) (rw when at c.in_ok-lifted.ensures.reads_only)
    (λ clean same first second. (first, subst (λ (now : Database). ReadsPart (λ r. entries_where (λ n e. names_rrr r act n) r.rrrs) t now.trees lifted) same second)) in
    look_told a d _ both
    (λ clean both moments h held r have stands caller is.
    sliced parts r caller act known sources lifted _ is (both.0 moments h held r have stands) (both.1 moments h held r have stands) c.in_ok-put_all.ensures)
