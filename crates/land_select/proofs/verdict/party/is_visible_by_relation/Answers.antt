use Rattle.std.proofs.Common.{rules, ◌≡◌, to_z, of_z, w64, subst, ◌∙◌}
use Rattle.land_core.specs.declared.kind.Kind.TheVariants.{Party}
use Rattle.land_rules.specs.Rules.{sees}
use Rattle.land_select.proofs.PartySight.{told_seen}
use Rattle.land_select.specs.Views.{AgreesWithRegister}
use Rattle.land_select_queries.proofs.Chains.{look_after}
use Rattle.land_select_queries.specs.Lookups.Viewers.{AreViewers}
use Rattle.land_tables_schema.proofs.Looking.{look_told}
use Rattle.sqlite.specs.Effect.{Database}
use Rattle.sqlite.specs.Held.{state}
use Rattle.land_select.proofs.verdict.party.is_visible_by_relation.Goals as goal

pub returns-in-Some-clause-reads_only : goal.returns-in-Some-clause-reads_only
returns-in-Some-clause-reads_only g c =
    let a = state g.S.Store c.args.conn.now in
    let t = c.args.at in
    let n = c.args.number in
    let when : to_z w64 (of_z w64 t) ≡ t = search rules in
    let reads_only = rw when at c.in_ok-told.ensures.reads_only in
    let few = c.in-Some.few in
    let met = rw c.as_slice.ensures at c.intersects.ensures in
    look_told a (state g.S.Store c.viewers_of_party.new.conn) _ reads_only
    (λ clean are moments h held r premise stands others.
    let all = subst (AreViewers c.args.relation n t a.now.trees) c.in-Some.is are in
    met
    ∙ told_seen c.selections_are_the_rules.ensures c.seen_lists_are_exact.ensures c.circles_see_together.ensures r t h premise stands n c.args.caller c.requires.role c.args.names.now c.args.relation few others c.requires.by (all moments h held))

pub returns-in-None-clause-reads_only : goal.returns-in-None-clause-reads_only
returns-in-None-clause-reads_only g c =
    let a = state g.S.Store c.args.conn.now in
    let t = c.args.at in
    let n = c.args.number in
    let when : to_z w64 (of_z w64 t) ≡ t = search rules in
    let first = rw when at c.in_ok-told.ensures.reads_only in
    let next = rw when at c.is_in_sight_list.ensures.reads_only in
    look_after a (state g.S.Store c.viewers_of_party.new.conn) (state g.S.Store c.is_in_sight_list.new.conn) c.is_in_sight_list.result first next
    (λ it clean same are shown moments h held r premise stands others.
    subst (λ (now : Database). AgreesWithRegister (λ r. sees r c.args.caller Party n) t now.trees it) same shown moments h held r premise stands)
