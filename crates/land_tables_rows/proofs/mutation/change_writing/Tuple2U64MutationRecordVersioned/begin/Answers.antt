use Rattle.std.proofs.Common.{◌≡◌, of_z, rules, to_z, w64}
use Rattle.land_tables_rows.proofs.mutation.change_writing.Tuple2U64MutationRecordVersioned.begin.Goals as goal

pub returns-clause-step : goal.returns-clause-step
returns-clause-step g c =
    let since : to_z w64 (of_z w64 c.args.since) ≡ c.args.since = search rules in
    rw (since) at c.begin.ensures.step
