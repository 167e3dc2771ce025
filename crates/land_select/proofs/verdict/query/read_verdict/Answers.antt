use Rattle.std.proofs.Common.{rules, ◌≡◌, subst, sym, to_z, of_z, w64, ◌∙◌}
use Rattle.land_select.proofs.CachedValue.{acts_are_allowed, decided_for, read_for}
use Rattle.land_select.proofs.Judged.{sight_says, standing_says}
use Rattle.land_select.specs.Cache.{IsSightVerdictWith}
use Rattle.land_select_queries.proofs.Chains.{look_after}
use Rattle.land_tables_schema.proofs.Looking.{look_told}
use Rattle.sqlite.specs.Effect.{Database}
use Rattle.sqlite.specs.Held.{state}
use Rattle.land_select.proofs.verdict.query.read_verdict.Goals as goal

pub returns-then-is_read-clause-reads_only : goal.returns-then-is_read-clause-reads_only
returns-then-is_read-clause-reads_only g c =
    let a = state g.S.Store c.args.conn.now in
    let caller = c.args.caller in
    let ask = c.args.ask.now in
    let t = c.args.at in
    let when : to_z w64 (of_z w64 t) ≡ t = search rules in
    look_after a (state g.S.Store c.read_standing_verdict.new.conn) (state g.S.Store c.read_sight_verdict.new.conn) c.read_sight_verdict.result c.in_ok-told.ensures.reads_only (rw when at c.read_sight_verdict.ensures.reads_only)
    (λ it clean same allowed told moments h held now at have premise stands_now stands given.
    let seen = subst (λ (now : Database). IsSightVerdictWith caller ask t now.trees it) same told moments h held at premise stands in
    (sight_says now at caller ask c.args.past it.0 (sym c.in-Allowed.is ∙ (allowed moments h held now have stands_now given).0) seen.0, seen.1, read_for now caller ask it.1 (sym c.is_read.ensures ∙ c.if-is_read.true)))

pub returns-else-is_read-clause-reads_only : goal.returns-else-is_read-clause-reads_only
returns-else-is_read-clause-reads_only g c =
    let caller = c.args.caller in
    let ask = c.args.ask.now in
    look_told (state g.S.Store c.args.conn.now) (state g.S.Store c.read_standing_verdict.new.conn) _ c.in_ok-told.ensures.reads_only
    (λ clean allowed moments h held now at have premise stands_now stands given.
    let first = allowed moments h held now have stands_now given in
    let seen = acts_are_allowed at caller ask (sym c.is_read.ensures ∙ c.if-is_read.false) in
    let cached = decided_for now at caller ask c.in_ok-told.told.1 first.1 in
    (sight_says now at caller ask c.args.past _ (sym c.in-Allowed.is ∙ first.0) seen, cached.0, cached.1))

pub returns-in-Denied-clause-reads_only : goal.returns-in-Denied-clause-reads_only
returns-in-Denied-clause-reads_only g c =
    look_told (state g.S.Store c.args.conn.now) (state g.S.Store c.read_standing_verdict.new.conn) _ c.in_ok-told.ensures.reads_only
    (λ clean denied moments h held now at have premise stands_now stands given.
    let first = denied moments h held now have stands_now given in
    let cached = decided_for now at c.args.caller c.args.ask.now c.in_ok-told.told.1 first.1 in
    (standing_says now at c.args.caller c.args.ask.now c.args.past c.in-Denied.rule (sym c.in-Denied.is ∙ first.0), cached.0, cached.1))
