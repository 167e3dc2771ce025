use Rattle.std.proofs.Common.{rules, ◌≡◌, ◌++◌, [], ◌∷◌, to_z, of_z, w64}
use Rattle.land_rules.specs.Circles.{principals_of}
use Rattle.land_select_queries.proofs.Principals.{are_circle}
use Rattle.land_select_queries.proofs.Records.{none_held}
use Rattle.land_tables_schema.proofs.Looking.{look_told}
use Rattle.sqlite.specs.Held.{state}
use Rattle.land_select_queries.proofs.lookups.of_agent.circle.Goals as goal

pub returns-clause-reads_only : goal.returns-clause-reads_only
returns-clause-reads_only g c =
    let when : to_z w64 (of_z w64 c.args.at) ≡ c.args.at = search rules in
    let reads_only = rw when at c.in_ok-numbers.ensures.reads_only in
    let party = c.args.party in
    let grown : c.push.new.self ≡ c.in_ok-numbers.numbers ++ party ∷ [] = c.in_ok-push.ensures.ok in
    look_told (state g.S.Store c.args.conn.now) (state g.S.Store c.principals.new.conn) _ reads_only
    (λ clean are moments h held r stands. are_circle party c.in_ok-numbers.numbers (principals_of r party) (are moments h held r stands) c.push.new.self grown)

pub returns-in_err-numbers-clause-unreadable : goal.returns-in_err-numbers-clause-unreadable
returns-in_err-numbers-clause-unreadable g c clean =
    none_held (state g.S.Store c.args.conn.now).now.trees c.from_residual.result c.in_err-numbers.field-0.0 c.from_residual.ensures.1 (c.in_err-numbers.ensures.unreadable clean)
