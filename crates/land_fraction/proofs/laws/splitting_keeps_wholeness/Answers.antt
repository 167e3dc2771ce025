use Rattle.land_fraction.proofs.Moves.{wholeness-split}
use Rattle.land_fraction.proofs.laws.splitting_keeps_wholeness.Goals as goal

pub returns : goal.returns
returns c = wholeness-split
