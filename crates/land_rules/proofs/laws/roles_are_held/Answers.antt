use Rattle.land_rules.proofs.StandingLaws.{roles_are_held}
use Rattle.land_rules.proofs.laws.roles_are_held.Goals as goal

pub returns : goal.returns
returns c = roles_are_held
