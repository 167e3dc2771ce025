use Rattle.land_rules.proofs.StandingLaws.{past_is_closed}
use Rattle.land_rules.proofs.laws.three_roles_see_only_the_present.Goals as goal

pub returns : goal.returns
returns c = past_is_closed
