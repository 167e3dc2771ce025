use Rattle.land_rules.proofs.Telling.{full_sight_shows_all}
use Rattle.land_rules.proofs.denials.laws.full_sight_shows_all.Goals as goal

pub returns : goal.returns
returns c = full_sight_shows_all
