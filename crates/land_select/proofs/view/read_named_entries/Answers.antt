use Rattle.std.proofs.Common.{rules, ◌≡◌, subst, to_z, of_z, w64}
use Rattle.land_core.specs.declared.kind.Kind.TheVariants as kind
use Rattle.land_keep.specs.Sheets.{visible_entries}
use Rattle.land_select.proofs.ReadQueries.{look_means}
use Rattle.land_select.specs.Cache.{IsValueOf}
use Rattle.land_select.specs.Views.{AgreesIfGiven, visible_rrrs}
use Rattle.land_select.specs.declared.cache.CachedValue.{CachedValue}
use Rattle.land_select_queries.proofs.Chains.{look_after}
use Rattle.sqlite.specs.Effect.{Database}
use Rattle.sqlite.specs.Held.{state}
use Rattle.land_select.proofs.view.read_named_entries.Goals as goal

pub returns-in-VisibleEntries-clause-reads_only : goal.returns-in-VisibleEntries-clause-reads_only
returns-in-VisibleEntries-clause-reads_only g c =
    let caller = c.args.caller in
    let unit = c.args.unit in
    let when : to_z w64 (of_z w64 c.args.at) ≡ c.args.at = search rules in
    let reads_only = rw when at c.attach_names.ensures.reads_only caller in
    look_means (state g.S.Store c.args.conn.now) (state g.S.Store c.attach_names.new.conn) c.attach_names.result reads_only
    (λ it shown moments h held r premise stands found. shown moments h held r premise stands (subst (λ (f : CachedValue). IsValueOf r caller kind.Unit unit f) c.in-VisibleEntries.is found))

pub returns-in_ok-entries-in-Object-clause-reads_only : goal.returns-in_ok-entries-in-Object-clause-reads_only
returns-in_ok-entries-in-Object-clause-reads_only g c =
    let caller = c.args.caller in
    let unit = c.args.unit in
    let t = c.args.at in
    let entries = c.in_ok-entries-in-Object.entries in
    let when : to_z w64 (of_z w64 t) ≡ t = search rules in
    look_after (state g.S.Store c.args.conn.now) (state g.S.Store c.read_visible_entries.new.conn) (state g.S.Store c.attach_names-in-Object.new.conn) c.attach_names-in-Object.result (rw when at c.in_ok-entries-in-Object.ensures.reads_only) (rw when at c.attach_names-in-Object.ensures.reads_only caller)
    (λ it clean same is shown moments h held r premise stands found.
    subst (λ (now : Database). AgreesIfGiven (λ r. entries ≡ visible_rrrs r caller unit) (λ r. visible_entries r caller unit) t now.trees it) same shown moments h held r premise stands (is moments h held r premise stands))
