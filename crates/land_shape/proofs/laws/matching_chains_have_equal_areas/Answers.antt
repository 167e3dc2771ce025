use Rattle.land_shape.proofs.MatchingLaw.{matching_law}
use Rattle.land_shape.proofs.laws.matching_chains_have_equal_areas.Goals as goal

pub returns : goal.returns
returns c = matching_law
