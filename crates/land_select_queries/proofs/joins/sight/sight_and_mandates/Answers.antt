use Rattle.std.proofs.Common.{rules, ◌≡◌, subst, sym, to_z, of_z, w64, ◌∙◌}
use Rattle.std.proofs.lemmas.Bool.{false≢true}
use Rattle.land_core.specs.declared.caller.Caller.{Caller}
use Rattle.land_core.specs.declared.register.Register.{Register}
use Rattle.land_rules.specs.CircleLaws.{without_mandates}
use Rattle.land_rules.specs.Rules.{seen_of}
use Rattle.land_select_queries.proofs.Circles.{citizen_is, is_of_citizen, seen_alike, seen_alone}
use Rattle.land_select_queries.proofs.United.{look_means}
use Rattle.land_select_queries.proofs.joins.sight.sight_and_mandates.Goals.{else-has_circle-via-then-has_circle+else-not-holds_none, else-has_circle-via-else-has_circle}
use Rattle.land_select_queries.specs.Joins.Sight.{HoldsNoMandateIf, IsSightWith}
use Rattle.land_tables_schema.proofs.Looking.{look_told}
use Rattle.sqlite.specs.Held.{state}
use Rattle.land_select_queries.proofs.joins.sight.sight_and_mandates.Goals as goal

pub returns-then-not-holds_none-clause-reads_only : goal.returns-then-not-holds_none-clause-reads_only
returns-then-not-holds_none-clause-reads_only g c =
    let a = state g.S.Store c.args.conn.now in
    let t = c.args.at in
    let caller = c.args.caller in
    let when : to_z w64 (of_z w64 t) ≡ t = search rules in
    let reads_only = rw when at c.sight_of_circle.ensures.reads_only in
    look_means a (state g.S.Store c.sight_of_circle.new.conn) c.sight_of_circle.result reads_only
    (λ it is. subst (λ (who : Caller). IsSightWith who c.args.holds_none c.args.kind t a.now.trees it)
    (citizen_is caller.party caller.role (is_of_citizen caller.role c.args.kind (sym c.has_circle.ensures ∙ c.if-has_circle.true)))
    (λ moments h held r sound stands given. is moments h held r sound stands (λ other. absurd (false≢true other))))

pub returns-clause-reads_only : goal.returns-clause-reads_only
returns-clause-reads_only g c =
    let caller = c.args.caller in
    let kind = c.args.kind in
    let when : to_z w64 (of_z w64 c.args.at) ≡ c.args.at = search rules in
    let reads_only = rw when at c.in_ok-numbers.ensures.reads_only in
    let alike : (r : Register) → HoldsNoMandateIf c.args.holds_none r caller.party → seen_of (without_mandates r) caller kind ≡ seen_of r caller kind =
    λ r given. elim c.else-has_circle.branch [
      | else-has_circle-via-then-has_circle+else-not-holds_none w ↦
          subst (λ (who : Caller). seen_of (without_mandates r) who kind ≡ seen_of r who kind) (citizen_is caller.party caller.role (is_of_citizen caller.role kind (sym c.has_circle.ensures ∙ w.if-has_circle.true)))
          (seen_alone c.seen_lists_are_exact.ensures c.circles_see_together.ensures r caller.party kind (given w.if-not-holds_none.false))
      | else-has_circle-via-else-has_circle w ↦ seen_alike r caller.party caller.role kind (sym c.has_circle.ensures ∙ w.if-has_circle.false)
    ] in
    look_told (state g.S.Store c.args.conn.now) (state g.S.Store c.sight_without_mandates.new.conn) _ reads_only
    (λ clean is moments h held r sound stands given. (is moments h held r sound stands ∙ alike r given, λ other. absurd (false≢true other)))
