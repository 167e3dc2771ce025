use Rattle.std.proofs.Common.{rules, ◌≡◌, to_z, of_z, w64}
use Rattle.land_select_queries.proofs.Ranges.{are_within, none_within}
use Rattle.land_select_queries.proofs.Records.{none_held}
use Rattle.land_tables_schema.proofs.Looking.{look_told}
use Rattle.sqlite.specs.Held.{state}
use Rattle.land_select_queries.proofs.lookups.within.records.Goals as goal

pub returns-clause-reads_only : goal.returns-clause-reads_only
returns-clause-reads_only g c =
    let old = state g.S.Store c.args.conn.now in
    let when : to_z w64 (of_z w64 c.args.at) ≡ c.args.at = search rules in
    let reads_only = rw when at c.in_ok-found.ensures.reads_only in
    let made = rw (when, c.as_slice.ensures) at c.in_ok-part_at.ensures.stands in
    look_told old (state g.S.Store c.find.new.conn) _ reads_only
    (λ clean said. are_within _ _ _ g.met.V.Numbered.within c.args.first c.args.last c.args.at old.now.trees c.in_ok-found.found said _ made)

pub returns-in_err-found-clause-unreadable : goal.returns-in_err-found-clause-unreadable
returns-in_err-found-clause-unreadable g c clean =
    let when : to_z w64 (of_z w64 c.args.at) ≡ c.args.at = search rules in
    let fault = c.in_err-found.field-0.0 in
    let cannot = rw when at (c.in_err-found.ensures.unreadable clean) in
    none_held _ c.from_residual.result fault c.from_residual.ensures.1 (none_within _ _ _ g.met.V.Numbered.within c.args.first c.args.last c.args.at _ fault cannot)
