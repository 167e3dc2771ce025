use Rattle.std.proofs.Common.{rules, ◌≡◌, subst, to_z, of_z, w64, Ok}
use Rattle.land_acts.specs.Slices.{mutations_in_slice, slice_with}
use Rattle.land_core.specs.declared.caller.Caller.{Caller}
use Rattle.land_select.specs.Slices.Gathered.{IsKnown, HoldsOfRegister, KnowsUnits, KnowsParties}
use Rattle.land_select_queries.proofs.Chains.{look_after}
use Rattle.land_tables_rows.specs.declared.listing.fault.ReadFault.{ReadFault}
use Rattle.land_tables_schema.proofs.Looking.{look_then}
use Rattle.land_tables_schema.specs.Rows.ReadQueries.{IsStoreRead}
use Rattle.sqlite.specs.Effect.{Database}
use Rattle.sqlite.specs.Held.{state}
use Rattle.land_select.proofs.slices.slice.slice_about.Goals as goal

pub returns-clause-reads_only : goal.returns-clause-reads_only
returns-clause-reads_only g c =
    let a = state g.S.Store c.args.conn.now in
    let d = state g.S.Store c.read_units.new.conn in
    let t = c.args.at in
    let act = c.args.act.now in
    let parts = c.args.parts in
    let mutations = c.args.mutations in
    let parties_and_roles = c.in_ok-parties_and_roles.parties_and_roles in
    let units_and_entries = c.in_ok-units_and_entries.units_and_entries in
    let when : to_z w64 (of_z w64 t) ≡ t = search rules in
    let both : IsStoreRead {X = Unit {0}} {E = ReadFault} (Ok tt) (λ _. HoldsOfRegister (λ r. (caller : Caller) → mutations ≡ mutations_in_slice r caller act → KnowsParties parts r act parties_and_roles) t a.now.trees
    × HoldsOfRegister (λ r. (caller : Caller) → mutations ≡ mutations_in_slice r caller act → KnowsUnits parts r act units_and_entries) t a.now.trees) a d =
    look_then a (state g.S.Store c.read_parties.new.conn) d (rw when at c.in_ok-parties_and_roles.ensures.reads_only) (rw when at c.in_ok-units_and_entries.ensures.reads_only)
    (λ clean same first second. (first, subst (λ (now : Database). HoldsOfRegister (λ r. (caller : Caller) → mutations ≡ mutations_in_slice r caller act → KnowsUnits parts r act units_and_entries) t now.trees) same second)) in
    look_after a d (state g.S.Store c.slice_with.new.conn) c.slice_with.result both (rw when at c.slice_with.ensures.reads_only)
    (λ it clean same both sliced moments h held r have stands next caller are pair.
    subst (λ (now : Database). HoldsOfRegister (λ r. (caller : Caller) → IsKnown parts r caller act (record { mutations = mutations; parties_and_roles = parties_and_roles; units_and_entries = units_and_entries; mandates = c.args.mandates; next = c.args.next }) → it ≡ slice_with parts r caller act) t now.trees)
    same sliced moments h held r have stands caller (record {
      mutations = are;
      parties_and_roles = both.0 moments h held r have stands caller are;
      units_and_entries = both.1 moments h held r have stands caller are;
      mandates = pair;
      next = next;
    }))
