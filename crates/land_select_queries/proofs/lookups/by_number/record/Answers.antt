use Rattle.std.proofs.Common.{rules, ◌≡◌, to_z, of_z, w64}
use Rattle.land_select_queries.proofs.Records.{holds_none, is_record, none_held}
use Rattle.land_tables_schema.proofs.Looking.{look_told}
use Rattle.sqlite.specs.Held.{state}
use Rattle.land_select_queries.proofs.lookups.by_number.record.Goals as goal

pub returns-clause-reads_only : goal.returns-clause-reads_only
returns-clause-reads_only g c =
    let when : to_z w64 (of_z w64 c.args.at) ≡ c.args.at = search rules in
    let reads_only = rw (when, c.BY_NUMBER.ensures) at c.in_ok-found.ensures.reads_only in
    look_told (state g.S.Store c.args.conn.now) (state g.S.Store c.find.new.conn) _ reads_only
    (λ clean said. is_record _ _ _ g.met.V.Numbered.found c.args.number c.args.at _ c.in_ok-found.found said c.record_of.result c.record_of.ensures)

pub returns-in_err-found-clause-unreadable : goal.returns-in_err-found-clause-unreadable
returns-in_err-found-clause-unreadable g c clean =
    let when : to_z w64 (of_z w64 c.args.at) ≡ c.args.at = search rules in
    let fault = c.in_err-found.field-0.0 in
    let cannot = rw (when, c.BY_NUMBER.ensures) at (c.in_err-found.ensures.unreadable clean) in
    none_held _ c.from_residual.result fault c.from_residual.ensures.1 (holds_none _ _ _ g.met.V.Numbered.found c.args.number c.args.at _ fault cannot)
