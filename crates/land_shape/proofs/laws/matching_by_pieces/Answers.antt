use Rattle.land_shape.proofs.MatchingTest.{test_law}
use Rattle.land_shape.proofs.laws.matching_by_pieces.Goals as goal

pub returns : goal.returns
returns c = test_law
