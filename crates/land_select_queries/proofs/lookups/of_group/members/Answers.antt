use Rattle.std.proofs.Common.{rules, ◌≡◌, to_z, of_z, w64, nat_eq}
use Rattle.land_core.specs.Entries.{entries_where}
use Rattle.land_select_queries.proofs.Parts.{groups_found, still_have}
use Rattle.land_select_queries.proofs.Records.{are_wanted, none_said}
use Rattle.land_select_queries.specs.declared.lookups.record_lookup.RecordLookup.TheVariants.{MembersOfGroup}
use Rattle.land_tables_schema.proofs.Looking.{look_told}
use Rattle.sqlite.specs.Held.{state}
use Rattle.land_select_queries.proofs.lookups.of_group.members.Goals as goal

pub returns-clause-reads_only : goal.returns-clause-reads_only
returns-clause-reads_only g c =
    let old = state g.S.Store c.args.conn.now in
    let when : to_z w64 (of_z w64 c.args.at) ≡ c.args.at = search rules in
    let reads_only = rw when at c.in_ok-found.ensures.reads_only in
    let made = rw (when, c.as_slice.ensures) at c.in_ok-groups_at.ensures.stands in
    look_told old (state g.S.Store c.find.new.conn) _ reads_only
    (λ clean said moments h held r have stands.
    made (entries_where (λ n members. nat_eq n c.args.group) r.members) (still_have (λ n. nat_eq n c.args.group) r.members have) (groups_found (λ n. nat_eq n c.args.group) c.args.at h.members r.members stands.members c.in_ok-found.found (are_wanted MembersOfGroup c.args.group c.args.at old.now.trees h.members held.the_members.said c.in_ok-found.found said)))

pub returns-in_err-found-clause-unreadable : goal.returns-in_err-found-clause-unreadable
returns-in_err-found-clause-unreadable g c clean =
    let when : to_z w64 (of_z w64 c.args.at) ≡ c.args.at = search rules in
    none_said MembersOfGroup c.args.group c.args.at _ (λ h. h.members) (λ moments h held. held.the_members.said) c.from_residual.result c.in_err-found.field-0.0 c.from_residual.ensures.1 (rw when at (c.in_err-found.ensures.unreadable clean))
