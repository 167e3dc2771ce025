use Rattle.std.proofs.Common.{◌≡◌, true, rules, subst, sym, List}
use Rattle.land_tables.proofs.InTime.{in_time}
use Rattle.land_tables_history.specs.declared.moment.Moment.{Moment}
use Rattle.land_tables_validity.specs.CoverageSpans.{are_in_range}
use Rattle.land_tables.proofs.validation.validate_history.Goals as goal

pub is_valid_history-requires-clause-in_time : goal.is_valid_history-requires-clause-in_time
is_valid_history-requires-clause-in_time c =
    let them : c.as_slice.result.now ≡ c.args.found.now.moments = search rules in
    subst (λ (l : List Moment). are_in_range l ≡ true) (sym them) (in_time c.args.latest c.args.found.now.moments c.requires.last c.requires.moment)
