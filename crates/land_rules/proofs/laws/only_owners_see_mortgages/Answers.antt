use Rattle.land_rules.proofs.SightLaws.{owners_alone}
use Rattle.land_rules.proofs.laws.only_owners_see_mortgages.Goals as goal

pub returns : goal.returns
returns c = owners_alone
