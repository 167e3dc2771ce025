use Rattle.std.proofs.Common.{◌≡◌, true, rules, Err}
use Rattle.land_tables.proofs.Judged.{missed}
use Rattle.land_tables.specs.TableContents.{IsLatest}
use Rattle.land_tables_history.specs.Intervals.{has_intervals}
use Rattle.land_tables.proofs.validation.validate.Goals as goal

pub returns-in-Err-clause-judged : goal.returns-in-Err-clause-judged
returns-in-Err-clause-judged c =
    let found = c.args.found.now in
    let intervals : has_intervals found.moments found.history ≡ true = search rules in
    let is : IsLatest found.moments (Err c.in-Err.fault) = search rules in
    missed found c.in-Err.fault intervals is
