use Rattle.std.proofs.Common.{rules, ◌≡◌, false, subst, to_z, of_z, w64, Ok}
use Rattle.std.specs.FinMap as map
use Rattle.land_acts.specs.Slices.{includes_unit}
use Rattle.land_core.specs.Entries.{entries_where}
use Rattle.land_select.proofs.NamedObjects.{units_listed}
use Rattle.land_select.proofs.SlicedRegisters.{all_gathered, included_gathered}
use Rattle.land_select.specs.Slices.Gathered.{HoldsOfRegister, KnowsMore, numbers_if, with_numbers}
use Rattle.land_select.specs.Slices.Named.{units_of}
use Rattle.land_tables_rows.specs.declared.listing.fault.ReadFault.{ReadFault}
use Rattle.land_tables_schema.proofs.Looking.{look_fails, look_then}
use Rattle.land_tables_schema.specs.Rows.ReadQueries.{IsStoreRead}
use Rattle.sqlite.specs.Effect.{Database}
use Rattle.sqlite.specs.Held.{state}
use Rattle.sqlite_trees.specs.Tree.{Trees}
use Rattle.land_select.proofs.slices.slice.read_units.Goals as goal

pub returns-clause-reads_only : goal.returns-clause-reads_only
returns-clause-reads_only g c =
    let a = state g.S.Store c.args.conn.now in
    let b = state g.S.Store c.gather_all.new.conn in
    let d = state g.S.Store c.gather_included.new.conn in
    let e = state g.S.Store c.gather_all-2.new.conn in
    let t = c.args.at in
    let parts = c.args.parts in
    let act = c.args.act.now in
    let mutations = c.args.mutations.now in
    let ns = numbers_if parts.units (units_of act mutations) in
    let units = c.in_ok-units.units in
    let parcels = c.in_ok-parcels.parcels in
    let rrrs = c.in_ok-rrrs.rrrs in
    let when : to_z w64 (of_z w64 t) ≡ t = search rules in
    let Units : Trees → Type 0 = λ db. KnowsMore (λ r asked it. it ≡ entries_where (λ n u. asked n) r.units) (with_numbers ns) map.empty units t db in
    let Parcels : Trees → Type 0 =
    λ db. HoldsOfRegister (λ r. map.empty ≡ entries_where (λ n p. false) r.parcels → parcels ≡ entries_where (λ n p. with_numbers (numbers_if parts.parcels ns) (λ n. false) p.unit) r.parcels) t db in
    let Rrrs : Trees → Type 0 = λ db. KnowsMore (λ r asked it. it ≡ entries_where (λ n e. asked e.unit) r.rrrs) (with_numbers ns) map.empty rrrs t db in
    let two : IsStoreRead {X = Unit {0}} {E = ReadFault} (Ok tt) (λ _. Units a.now.trees × Parcels a.now.trees) a d =
    look_then a b d (rw (when, c.new.ensures, c.as_slice-numbers.ensures, c.in_ok-listed.ensures) at c.in_ok-units.ensures.reads_only) (rw (when, c.new-2.ensures, c.as_slice-numbers.ensures, c.in_ok-listed.ensures) at c.in_ok-parcels.ensures.reads_only)
    (λ clean same one two. (one, subst (λ (now : Database). Parcels now.trees) same two)) in
    look_then a d e two (rw (when, c.new-3.ensures, c.as_slice-numbers.ensures, c.in_ok-listed.ensures) at c.in_ok-rrrs.ensures.reads_only)
    (λ clean same both three moments h held r have stands caller are.
    let listed = units_listed parts r caller act mutations are in record {
      units = all_gathered r.units (λ n u. n) ns (includes_unit parts r act) units listed (λ nothing. both.0 moments h held r have stands (λ n. false) nothing);
      parcels = included_gathered r.parcels (λ n p. p.unit) parts.parcels ns (includes_unit parts r act) parcels listed (both.1 moments h held r have stands);
      rrrs = all_gathered r.rrrs (λ n e. e.unit) ns (includes_unit parts r act) rrrs listed (λ nothing. subst (λ (now : Database). Rrrs now.trees) same three moments h held r have stands (λ n. false) nothing);
    })

pub returns-in_err-rrrs-clause-reads_only : goal.returns-in_err-rrrs-clause-reads_only
returns-in_err-rrrs-clause-reads_only g c =
    let a = state g.S.Store c.args.conn.now in
    let d = state g.S.Store c.gather_included.new.conn in
    let two : IsStoreRead {X = Unit {0}} {E = ReadFault} (Ok tt) (λ _. Unit {0}) a d =
    look_then a (state g.S.Store c.gather_all.new.conn) d c.in_ok-units.ensures.reads_only c.in_ok-parcels.ensures.reads_only (λ _ _ _ _. tt) in
    look_fails a d (state g.S.Store c.gather_all-2.new.conn) c.from_residual-in_err-rrrs.result c.from_residual-in_err-rrrs.ensures.0 two c.in_err-rrrs.ensures.reads_only
