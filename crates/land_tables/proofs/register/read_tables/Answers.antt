use Rattle.std.proofs.Common.{of_z, rules, to_z, w64, ◌≡◌, subst}
use Rattle.land_tables_history.specs.History.{register_of_history}
use Rattle.land_tables_history.specs.Moments.{next_number_at}
use Rattle.land_tables_rows.specs.Listing.Reading.{DecodesHistory}
use Rattle.land_tables_schema.proofs.KnownSchemas.{land_has_first}
use Rattle.land_tables_schema.proofs.Looking.{look_then}
use Rattle.sqlite.specs.Held.{state}
use Rattle.land_tables.proofs.register.read_tables.Goals as goal

pub returns-clause-reads_only : goal.returns-clause-reads_only
returns-clause-reads_only g c =
    let h = c.in_ok-history.history in
    let t : to_z w64 (of_z w64 c.args.at) ≡ c.args.at = search rules in
    let next : c.next_at-next.result ≡ next_number_at c.in_ok-moments.moments c.args.at = search rules in
    let value : c.in_ok-register_at.field-0 ≡ register_of_history c.args.at h (next_number_at c.in_ok-moments.moments c.args.at) = search rules in
    look_then (state g.S.Store c.args.conn.now) (state g.S.Store c.moments.new.conn) (state g.S.Store c.history.new.conn) c.in_ok-moments.ensures.reads_only c.in_ok-history.ensures.reads_only
    (λ _ same the_moments the_history. (c.in_ok-moments.moments, h, the_moments, subst (λ db. DecodesHistory db.trees h) same the_history, value))

pub moments-requires : goal.moments-requires
moments-requires g c clean = land_has_first (state g.S.Store c.args.conn.now).now.schema (c.requires clean)
