use Rattle.land_fraction.proofs.Moves.{wholeness-joined}
use Rattle.land_fraction.proofs.laws.joining_keeps_wholeness.Goals as goal

pub returns : goal.returns
returns c = wholeness-joined
