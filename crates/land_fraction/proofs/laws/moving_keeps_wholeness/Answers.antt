use Rattle.land_fraction.proofs.Moves.{wholeness-moved}
use Rattle.land_fraction.proofs.laws.moving_keeps_wholeness.Goals as goal

pub returns : goal.returns
returns c = wholeness-moved
