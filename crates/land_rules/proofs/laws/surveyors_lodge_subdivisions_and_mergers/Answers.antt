use Rattle.land_rules.proofs.StandingLaws.{outlines_are_left}
use Rattle.land_rules.proofs.laws.surveyors_lodge_subdivisions_and_mergers.Goals as goal

pub returns : goal.returns
returns c = outlines_are_left
