use Rattle.std.proofs.Common.{rules, ◌≡◌, ◌++◌, [], ◌∷◌, to_z, of_z, w64}
use Rattle.land_rules.specs.Circles.{principals_of}
use Rattle.land_select_queries.proofs.Circles.{seen_by_circle}
use Rattle.land_select_queries.proofs.Principals.{are_circle}
use Rattle.land_select_queries.proofs.United.{look_known}
use Rattle.sqlite.specs.Held.{state}
use Rattle.land_select_queries.proofs.joins.sight.sight_of_parties.Goals as goal

pub returns-clause-reads_only : goal.returns-clause-reads_only
returns-clause-reads_only g c =
    let t = c.args.at in
    let kind = c.args.kind in
    let party = c.args.party in
    let when : to_z w64 (of_z w64 t) ≡ t = search rules in
    let callers = c.push.new.self in
    let grown : callers ≡ c.args.principals ++ party ∷ [] = c.in_ok-push.ensures.ok in
    let reads_only = rw (c.selections.ensures, c.as_slice.ensures, when) at c.run_union_for.ensures.reads_only in
    look_known (state g.S.Store c.args.conn.now) (state g.S.Store c.run_union_for.new.conn) c.run_union_for.result reads_only c.run_union_for.ensures.ascending
    (λ it clean all rising moments h held r sound stands are.
    seen_by_circle c.selections_are_the_rules.ensures c.seen_lists_are_exact.ensures c.circles_see_together.ensures r t h sound stands party kind callers it (are_circle party c.args.principals (principals_of r party) are callers grown)
    (all moments h held) rising)
