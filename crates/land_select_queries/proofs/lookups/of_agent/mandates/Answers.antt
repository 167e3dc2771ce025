use Rattle.std.proofs.Common.{rules, ◌≡◌, nat_eq, to_z, of_z, w64}
use Rattle.land_core.specs.Entries.{entries_where}
use Rattle.land_select_queries.proofs.Parts.{mandates_found}
use Rattle.land_select_queries.proofs.Records.{are_wanted, none_said}
use Rattle.land_select_queries.specs.declared.lookups.record_lookup.RecordLookup.TheVariants.{MandatesOfAgent}
use Rattle.land_tables_schema.proofs.Looking.{look_told}
use Rattle.sqlite.specs.Held.{state}
use Rattle.land_select_queries.proofs.lookups.of_agent.mandates.Goals as goal

pub returns-clause-reads_only : goal.returns-clause-reads_only
returns-clause-reads_only g c =
    let old = state g.S.Store c.args.conn.now in
    let agent = c.args.agent in
    let when : to_z w64 (of_z w64 c.args.at) ≡ c.args.at = search rules in
    let reads_only = rw when at c.in_ok-held.ensures.reads_only in
    let made = rw (when, c.as_slice.ensures) at c.in_ok-mandates_at.ensures.stands in
    look_told old (state g.S.Store c.find.new.conn) _ reads_only
    (λ clean said moments h held r have stands.
    made (entries_where (λ mandate u. nat_eq mandate.agent agent) r.mandates) (mandates_found c.args.at (λ mandate. nat_eq mandate.agent agent) h.mandates r.mandates stands.mandates c.in_ok-held.held (are_wanted MandatesOfAgent agent c.args.at old.now.trees h.mandates held.the_mandates.said c.in_ok-held.held said)))

pub returns-in_err-held-clause-unreadable : goal.returns-in_err-held-clause-unreadable
returns-in_err-held-clause-unreadable g c clean =
    let when : to_z w64 (of_z w64 c.args.at) ≡ c.args.at = search rules in
    none_said MandatesOfAgent c.args.agent c.args.at _ (λ h. h.mandates) (λ moments h held. held.the_mandates.said) c.from_residual.result c.in_err-held.field-0.0 c.from_residual.ensures.1 (rw when at (c.in_err-held.ensures.unreadable clean))
