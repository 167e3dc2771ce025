use Rattle.land_rules.proofs.StandingLaws.{own_discharges}
use Rattle.land_rules.proofs.laws.banks_discharge_their_own_mortgages.Goals as goal

pub returns : goal.returns
returns c = own_discharges
