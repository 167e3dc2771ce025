use Rattle.land_fraction.proofs.Moves.{wholeness-permuted}
use Rattle.land_fraction.proofs.laws.order_of_lists.Goals as goal

pub returns : goal.returns
returns c = wholeness-permuted
