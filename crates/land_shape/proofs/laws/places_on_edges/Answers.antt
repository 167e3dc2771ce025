use Rattle.land_shape.proofs.LiesLaw.{lies_law}
use Rattle.land_shape.proofs.laws.places_on_edges.Goals as goal

pub returns : goal.returns
returns c = lies_law
