use Rattle.std.proofs.Common.{rules, ◌≡◌, ◌∙◌}
use Rattle.land_core.specs.Entries.{some}
use Rattle.land_rules.proofs.Interests.{interest_by_names}
use Rattle.land_rules.specs.Holdings.{has_number, has_interest_by}
use Rattle.land_rules.proofs.rules.holdings.units_of_interest.Goals as goal

pub returns : goal.returns
returns c = λ party are unit.
    let by_some : has_number c.loop-entry.units unit ≡ some (λ n e. has_interest_by c.args.interest c.args.at.now (has_number c.args.names.now) unit e) c.args.at.now.rrrs = search rules in
    by_some ∙ interest_by_names c.args.interest c.args.at.now party c.args.names.now are unit
