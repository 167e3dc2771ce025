use Rattle.std.proofs.Common.{rules, ◌≡◌, ◌∙◌, ap, subst, to_z, of_z, w64, Ok}
use Rattle.land_acts.specs.Slices.{mutations_in_slice, names_mandate, slice_with}
use Rattle.land_core.specs.Entries.{entries_where}
use Rattle.land_core.specs.declared.caller.Caller.{Caller}
use Rattle.land_rules.specs.Denials.Standing.{mutation_of_act}
use Rattle.land_select.specs.Cache.{IsMutationValue}
use Rattle.land_select.specs.Slices.Gathered.{HoldsOfRegister, parts_to_read}
use Rattle.land_select_queries.proofs.Chains.{look_after}
use Rattle.land_select_queries.specs.Lookups.Parts.{ReadsPart}
use Rattle.land_tables_rows.specs.declared.listing.fault.ReadFault.{ReadFault}
use Rattle.land_tables_schema.proofs.Looking.{look_then}
use Rattle.land_tables_schema.specs.Rows.ReadQueries.{IsStoreRead}
use Rattle.sqlite.specs.Effect.{Database}
use Rattle.sqlite.specs.Held.{state}
use Rattle.land_select.proofs.slices.slice.slice_at.Goals as goal

pub returns-clause-reads_only : goal.returns-clause-reads_only
returns-clause-reads_only g c =
    let a = state g.S.Store c.args.conn.now in
    let d = state g.S.Store c.mandates_of.new.conn in
    let t = c.args.at in
    let act = c.args.act.now in
    let asker = c.args.caller in
    let mutations = c.in_ok-mutations.mutations in
    let mandates = c.in_ok-mandates.mandates in
    let when : to_z w64 (of_z w64 t) ≡ t = search rules in
    let both : IsStoreRead {X = Unit {0}} {E = ReadFault} (Ok tt) (λ _. HoldsOfRegister (λ r. IsMutationValue r asker (mutation_of_act act) c.args.known.now → mutations ≡ mutations_in_slice r asker act) t a.now.trees
    × ReadsPart (λ r. entries_where (λ m u. names_mandate asker act m) r.mandates) t a.now.trees mandates) a d =
    look_then a (state g.S.Store c.mutations_of.new.conn) d (rw when at c.in_ok-mutations.ensures.reads_only) (rw when at c.in_ok-mandates.ensures.reads_only)
    (λ clean same first second. (first, subst (λ (now : Database). ReadsPart (λ r. entries_where (λ m u. names_mandate asker act m) r.mandates) t now.trees mandates) same second)) in
    look_after a d (state g.S.Store c.slice_about.new.conn) c.slice_about.result both (rw (when, c.parts_to_read-parts.ensures) at c.slice_about.ensures.reads_only)
    (λ it clean same both sliced moments h held r have stands given next.
    let are = both.0 moments h held r have stands given in
    subst (λ (now : Database). HoldsOfRegister (λ r. r.next ≡ c.args.next → (caller : Caller) → mutations ≡ mutations_in_slice r caller act → mandates ≡ entries_where (λ m u. names_mandate caller act m) r.mandates → it ≡ slice_with (parts_to_read c.args.needed_only mutations act) r caller act) t now.trees)
    same sliced moments h held r have stands next asker are (both.1 moments h held r have stands)
    ∙ ap (λ ms. slice_with (parts_to_read c.args.needed_only ms act) r asker act) are)
