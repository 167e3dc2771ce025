use Rattle.std.proofs.Common.{rules, ◌≡◌, to_z, of_z, w64, subst, sym}
use Rattle.land_core.specs.Entries.{entries_where}
use Rattle.land_core.specs.Mutations.{is_lodged_as}
use Rattle.land_select_queries.proofs.Parts.{part_found}
use Rattle.land_select_queries.proofs.Records.{all_wanted, can_be_read, none_held}
use Rattle.land_select_queries.specs.Lookups.RecordRows.{AreLodgedRows, matching_versions}
use Rattle.land_tables_history.specs.Standing.{IsPartAt}
use Rattle.land_tables_rows.specs.Listing.Reading.{mutations}
use Rattle.land_tables_schema.proofs.Looking.{look_told}
use Rattle.sqlite.specs.Held.{state}
use Rattle.land_select_queries.proofs.lookups.of_lodger.find_lodged.Goals as goal

pub returns-clause-reads_only : goal.returns-clause-reads_only
returns-clause-reads_only g c =
    let old = state g.S.Store c.args.conn.now in
    let lodger = c.args.lodger in
    let reference = c.args.reference.now in
    let when : to_z w64 (of_z w64 c.args.at) ≡ c.args.at = search rules in
    let reads_only = rw when at c.in_ok-rows.ensures.reads_only in
    let made = rw when at c.in_ok-part_at.ensures.stands in
    look_told old (state g.S.Store c.query_lodged.new.conn) _ reads_only
    (λ clean are moments h held r have stands.
    made (entries_where (λ n m. is_lodged_as lodger reference m) r.mutations)
    (subst (λ l. IsPartAt c.args.at l (entries_where (λ n m. is_lodged_as lodger reference m) r.mutations)) (sym c.as_slice-2.ensures)
    (part_found c.args.at (λ n m. is_lodged_as lodger reference m) h.mutations r.mutations stands.mutations c.in_ok-found.found
    (all_wanted mutations.said c.as_slice.result.now (matching_versions (λ mutation. is_lodged_as lodger reference mutation.1) c.args.at h.mutations)
    (subst (AreLodgedRows lodger reference c.args.at old.now.trees) (sym c.as_slice.ensures.value) are h.mutations held.the_mutations.said) c.in_ok-found.found c.in_ok-found.ensures))))

pub returns-in_err-found-clause-unreadable : goal.returns-in_err-found-clause-unreadable
returns-in_err-found-clause-unreadable g c clean =
    let old = state g.S.Store c.args.conn.now in
    let lodger = c.args.lodger in
    let reference = c.args.reference.now in
    let when : to_z w64 (of_z w64 c.args.at) ≡ c.args.at = search rules in
    let reads_only = rw when at c.in_ok-rows.ensures.reads_only in
    let fault = c.in_err-found.field-0.0 in
    none_held old.now.trees c.from_residual-in_err-found.result fault c.from_residual-in_err-found.ensures.1
    (λ is moments h held. can_be_read mutations.said c.as_slice.result.now (matching_versions (λ mutation. is_lodged_as lodger reference mutation.1) c.args.at h.mutations)
    (subst (AreLodgedRows lodger reference c.args.at old.now.trees) (sym c.as_slice.ensures.value) (reads_only.given clean) h.mutations held.the_mutations.said)
    (c.in_err-found.ensures (λ none. absurd (let a = is in let b = none in cc))).1)
