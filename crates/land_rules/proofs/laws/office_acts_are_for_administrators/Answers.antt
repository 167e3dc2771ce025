use Rattle.land_rules.proofs.StandingLaws.{office_acts_are_reserved}
use Rattle.land_rules.proofs.laws.office_acts_are_for_administrators.Goals as goal

pub returns : goal.returns
returns c = office_acts_are_reserved
