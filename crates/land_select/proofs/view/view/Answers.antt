use Rattle.std.proofs.Common.{rules, ◌≡◌, subst, sym, to_z, of_z, w64, None, Some, ◌∙◌}
use Rattle.land_core.specs.declared.kind.Kind.TheVariants as kind
use Rattle.land_select.proofs.CachedValue.{object_among}
use Rattle.land_select.proofs.Viewed.{view_is}
use Rattle.land_select.specs.Cache.{IsValueOf}
use Rattle.land_select.specs.Views.{AgreesIfGiven, view_from}
use Rattle.land_select_queries.proofs.Chains.{look_after}
use Rattle.land_tables_schema.proofs.Looking.{look_told}
use Rattle.sqlite.specs.Effect.{Database}
use Rattle.sqlite.specs.Held.{state}
use Rattle.land_select.proofs.view.view.Goals as goal

pub returns-in-Some-clause-reads_only : goal.returns-in-Some-clause-reads_only
returns-in-Some-clause-reads_only g c =
    let a = state g.S.Store c.args.conn.now in
    let caller = c.args.seen.caller in
    let unit = c.args.seen.unit in
    let t = c.args.seen.moment in
    let found = c.args.seen.found.now in
    let it = c.in-Some.unit_record in
    let when : to_z w64 (of_z w64 t) ≡ t = search rules in
    look_after a (state g.S.Store c.read_unit_record.new.conn) (state g.S.Store c.view_with.new.conn) c.view_with.result (rw when at c.in_ok-known.ensures.reads_only) c.view_with.ensures.reads_only
    (λ shown clean same is so moments h held r premise stands given.
    subst (λ (now : Database). AgreesIfGiven (λ r. IsValueOf r caller kind.Unit unit found) (λ r. Some (view_from r caller unit t it)) t now.trees shown) same so moments h held r premise stands given
    ∙ view_is r caller unit t (Some it) (sym c.in-Some.is ∙ is moments h held r premise stands (object_among r caller kind.Unit unit found given)))

pub returns-in-None-clause-reads_only : goal.returns-in-None-clause-reads_only
returns-in-None-clause-reads_only g c =
    let caller = c.args.seen.caller in
    let unit = c.args.seen.unit in
    let t = c.args.seen.moment in
    let found = c.args.seen.found.now in
    let when : to_z w64 (of_z w64 t) ≡ t = search rules in
    let reads_only = rw when at c.in_ok-known.ensures.reads_only in
    look_told (state g.S.Store c.args.conn.now) (state g.S.Store c.read_unit_record.new.conn) _ reads_only
    (λ clean is moments h held r premise stands given.
    view_is r caller unit t None (sym c.in-None.is ∙ is moments h held r premise stands (object_among r caller kind.Unit unit found given)))
