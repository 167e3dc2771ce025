use Rattle.std.proofs.Common.{◌≡◌, of_z, rules, to_z, w64}
use Rattle.land_tables_rows.proofs.change_writing.kinds.change_kind.Goals as goal

pub returns-clause-step : goal.returns-clause-step
returns-clause-step g c =
    let stamp : to_z w64 (of_z w64 c.args.stamp) ≡ c.args.stamp = search rules in
    rw (c.as_slice.ensures, c.as_slice-2.ensures, stamp) at c.change.ensures.step
