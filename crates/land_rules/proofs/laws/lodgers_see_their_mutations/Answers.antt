use Rattle.land_rules.proofs.SightLaws.{lodgers_see}
use Rattle.land_rules.proofs.laws.lodgers_see_their_mutations.Goals as goal

pub returns : goal.returns
returns c = lodgers_see
