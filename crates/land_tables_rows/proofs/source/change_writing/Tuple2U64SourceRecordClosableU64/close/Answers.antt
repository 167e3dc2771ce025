use Rattle.std.proofs.Common.{◌≡◌, of_z, rules, to_z, w64}
use Rattle.land_tables_rows.proofs.source.change_writing.Tuple2U64SourceRecordClosableU64.close.Goals as goal

pub returns-clause-step : goal.returns-clause-step
returns-clause-step g c =
    let stamp : to_z w64 (of_z w64 c.args.stamp) ≡ c.args.stamp = search rules in
    rw (stamp) at c.close.ensures.step
