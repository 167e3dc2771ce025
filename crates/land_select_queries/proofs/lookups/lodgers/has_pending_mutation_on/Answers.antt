use Rattle.std.proofs.Common.{rules, ◌≡◌, to_z, of_z, w64, ◌∙◌}
use Rattle.land_select_queries.proofs.NumbersTold.{lodgers_told}
use Rattle.land_select_queries.proofs.Records.{none_held}
use Rattle.land_tables_schema.proofs.Looking.{look_told}
use Rattle.sqlite.specs.Held.{state}
use Rattle.land_select_queries.proofs.lookups.lodgers.has_pending_mutation_on.Goals as goal

pub returns-clause-reads_only : goal.returns-clause-reads_only
returns-clause-reads_only g c =
    let when : to_z w64 (of_z w64 c.args.at) ≡ c.args.at = search rules in
    let reads_only = rw when at c.in_ok-lodgers.ensures.reads_only in
    let told = rw c.as_slice.ensures at c.is_among.ensures in
    look_told (state g.S.Store c.args.conn.now) (state g.S.Store c.numbers.new.conn) _ reads_only
    (λ clean are moments h held r have stand. told ∙ lodgers_told r c.args.at h stand c.args.party c.args.unit c.in_ok-lodgers.lodgers (are moments h held))

pub returns-in_err-lodgers-clause-unreadable : goal.returns-in_err-lodgers-clause-unreadable
returns-in_err-lodgers-clause-unreadable g c clean =
    none_held (state g.S.Store c.args.conn.now).now.trees c.from_residual.result c.in_err-lodgers.field-0.0 c.from_residual.ensures.1 (c.in_err-lodgers.ensures.unreadable clean)
