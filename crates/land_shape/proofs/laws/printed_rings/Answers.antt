use Rattle.land_shape.proofs.LawLemmas.{printed_law}
use Rattle.land_shape.proofs.laws.printed_rings.Goals as goal

pub returns : goal.returns
returns c = printed_law
