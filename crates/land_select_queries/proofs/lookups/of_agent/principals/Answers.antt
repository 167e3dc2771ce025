use Rattle.std.proofs.Common.{rules, ◌≡◌, to_z, of_z, w64}
use Rattle.land_select_queries.proofs.Principals.{are_principals}
use Rattle.land_select_queries.proofs.Records.{are_wanted, none_said}
use Rattle.land_select_queries.specs.declared.lookups.record_lookup.RecordLookup.TheVariants.{MandatesOfAgent}
use Rattle.land_tables_schema.proofs.Looking.{look_told}
use Rattle.sqlite.specs.Held.{state}
use Rattle.land_select_queries.proofs.lookups.of_agent.principals.Goals as goal

pub returns-clause-reads_only : goal.returns-clause-reads_only
returns-clause-reads_only g c =
    let old = state g.S.Store c.args.conn.now in
    let when : to_z w64 (of_z w64 c.args.at) ≡ c.args.at = search rules in
    let reads_only = rw when at c.in_ok-found.ensures.reads_only in
    let listed = rw c.as_slice.ensures at c.in_ok-principals_of.ensures in
    look_told old (state g.S.Store c.find.new.conn) _ reads_only
    (λ clean said moments h held r stands.
    are_principals r c.args.at h stands c.args.agent c.in_ok-found.found (are_wanted MandatesOfAgent c.args.agent c.args.at old.now.trees h.mandates held.the_mandates.said c.in_ok-found.found said) _ listed)

pub returns-in_err-found-clause-unreadable : goal.returns-in_err-found-clause-unreadable
returns-in_err-found-clause-unreadable g c clean =
    let when : to_z w64 (of_z w64 c.args.at) ≡ c.args.at = search rules in
    none_said MandatesOfAgent c.args.agent c.args.at _ (λ h. h.mandates) (λ moments h held. held.the_mandates.said) c.from_residual.result c.in_err-found.field-0.0 c.from_residual.ensures.1 (rw when at (c.in_err-found.ensures.unreadable clean))
