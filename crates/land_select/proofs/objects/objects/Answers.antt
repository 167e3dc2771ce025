use Rattle.std.proofs.Common.{rules, ◌≡◌, ◌∙◌, to_z, of_z, w64}
use Rattle.land_select.proofs.Listing.{objects_alike}
use Rattle.land_tables_schema.proofs.Looking.{look_lost, look_told}
use Rattle.sqlite.specs.Held.{state}
use Rattle.land_select.proofs.objects.objects.Goals as goal

pub returns-in_err-objects_of-clause-reads_only : goal.returns-in_err-objects_of-clause-reads_only
returns-in_err-objects_of-clause-reads_only g c =
    look_lost (state g.S.Store c.args.conn.now) (state g.S.Store c.register_of.new.conn) c.from_residual-in_err-objects_of.result c.from_residual-in_err-objects_of.ensures.0 c.in_ok-register.ensures.reads_only

pub returns-clause-reads_only : goal.returns-clause-reads_only
returns-clause-reads_only g c =
    let when : to_z w64 (of_z w64 c.args.at) ≡ c.args.at = search rules in
    let reads_only = rw when at c.in_ok-register.ensures.reads_only in
    look_told (state g.S.Store c.args.conn.now) (state g.S.Store c.register_of.new.conn) _ reads_only
    (λ clean lists moments h held r have stands.
    c.in_ok-objects_of.ensures ∙ objects_alike c.args.kind c.range_of-range.result.0 c.range_of-range.result.1 c.in_ok-register.register r (lists moments h held r have stands) c.args.numbers.now c.range_of-range.ensures.within)
