use Rattle.std.proofs.Common.{rules, ◌≡◌, [], sym, ◌∙◌, subst, to_z, of_z, w64}
use Rattle.std.proofs.lemmas.Bool.{false≢true}
use Rattle.land_rules.specs.Circles.{principals_of}
use Rattle.land_rules.specs.Laws.{citizen}
use Rattle.land_select_queries.proofs.Circles.{none_in, none_permuted, seen_alone}
use Rattle.land_select_queries.specs.Joins.Sight.{IsSightGiven, IsSightWithoutMandates}
use Rattle.land_tables_schema.proofs.Looking.{look_fails, look_then}
use Rattle.sqlite.specs.Effect.{Database}
use Rattle.sqlite.specs.Held.{state}
use Rattle.land_select_queries.proofs.joins.sight.sight_of_circle.Goals as goal

pub returns-then-is_empty-clause-reads_only : goal.returns-then-is_empty-clause-reads_only
returns-then-is_empty-clause-reads_only g c =
    let t = c.args.at in
    let kind = c.args.kind in
    let party = c.args.party in
    let when : to_z w64 (of_z w64 t) ≡ t = search rules in
    let principals = c.in_ok-principals.principals in
    let none : principals ≡ [] = none_in principals (rw c.as_slice.ensures at (sym c.is_empty.ensures ∙ c.if-is_empty.true)) in
    let first = rw when at c.in_ok-principals.ensures.reads_only in
    let next = rw when at c.in_ok-numbers.ensures.reads_only in
    look_then (state g.S.Store c.args.conn.now) (state g.S.Store c.principals.new.conn) (state g.S.Store c.sight_without_mandates.new.conn) first next
    (λ clean same are known moments h held r sound stands given.
    let no : principals_of r party ≡ [] = none_permuted principals (principals_of r party) (are moments h held r stands) none in (
      subst (λ (now : Database). IsSightWithoutMandates (citizen party) kind t now.trees c.in_ok-numbers.numbers) same known moments h held r sound stands ∙ seen_alone c.seen_lists_are_exact.ensures c.circles_see_together.ensures r party kind no,
      λ is. no,
    ))

pub returns-in_err-numbers-2-clause-reads_only : goal.returns-in_err-numbers-2-clause-reads_only
returns-in_err-numbers-2-clause-reads_only g c =
    look_fails (state g.S.Store c.args.conn.now) (state g.S.Store c.principals.new.conn) (state g.S.Store c.sight_of_parties.new.conn) c.from_residual-in_err-numbers-2.result c.from_residual-in_err-numbers-2.ensures.0
    c.in_ok-principals.ensures.reads_only c.in_err-numbers-2.ensures.reads_only

pub returns-clause-reads_only : goal.returns-clause-reads_only
returns-clause-reads_only g c =
    let t = c.args.at in
    let kind = c.args.kind in
    let party = c.args.party in
    let when : to_z w64 (of_z w64 t) ≡ t = search rules in
    let first = rw when at c.in_ok-principals.ensures.reads_only in
    let next = rw when at c.in_ok-numbers-2.ensures.reads_only in
    look_then (state g.S.Store c.args.conn.now) (state g.S.Store c.principals.new.conn) (state g.S.Store c.sight_of_parties.new.conn) first next
    (λ clean same are known moments h held r sound stands given. (
      subst (λ (now : Database). IsSightGiven party c.in_ok-principals.principals kind t now.trees c.in_ok-numbers-2.numbers) same known moments h held r sound stands (are moments h held r stands),
      λ is. absurd (false≢true is),
    ))
